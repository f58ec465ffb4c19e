-- `fields::numbers::is_count` meets its contract. Assumes nothing.
use mathlib.Core.Path.{sym, ◌∙◌}
use Rattle.fields.proofs.Digits.{count_none, count-digits}
use Rattle.fields.proofs.numbers.is_count.Goals as goal

pub returns-then-s-eq0 : goal.returns-then-s-eq0
returns-then-s-eq0 c = count_none _ c.if-s-eq0.true

pub returns-then-is_digits : goal.returns-then-is_digits
returns-then-is_digits c = count-digits _ c.if-s-eq0.false (sym c.is_digits.ensures ∙ c.if-is_digits.true)

pub returns : goal.returns
returns c = c.is_padded.ensures
