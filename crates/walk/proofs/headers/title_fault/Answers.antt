-- `walk::headers::title_fault` meets its contract. Assumes nothing.
use mathlib.Core.Path.{sym, ◌∙◌}
use Rattle.walk.proofs.Stages.{faulted, unfaulted, title-wrong, title-llc, title-tape, title-counted}
use Rattle.walk.proofs.headers.title_fault.Goals as goal

pub returns-then-is_err : goal.returns-then-is_err
returns-then-is_err c = title-wrong _ _ c.lines_fault.ensures (faulted _ (sym c.is_err.ensures.value ∙ c.if-is_err.true))

pub returns-then-is_word : goal.returns-then-is_word
returns-then-is_word c = title-llc _ _ c.lines_fault.ensures (unfaulted _ (sym c.is_err.ensures.value ∙ c.if-is_err.false)) _ c.is_word.ensures c.if-is_word.true

pub returns-then-count_value-eq0 : goal.returns-then-count_value-eq0
returns-then-count_value-eq0 c = title-tape _ _ c.lines_fault.ensures (unfaulted _ (sym c.is_err.ensures.value ∙ c.if-is_err.false)) _ c.is_word.ensures c.if-is_word.false _ c.count_value.ensures c.if-count_value-eq0.true

pub returns : goal.returns
returns c = title-counted _ _ c.lines_fault.ensures (unfaulted _ (sym c.is_err.ensures.value ∙ c.if-is_err.false)) _ c.is_word.ensures c.if-is_word.false _ c.count_value.ensures c.if-count_value-eq0.false
