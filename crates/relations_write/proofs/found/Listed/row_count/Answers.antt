-- `relations_write::found::Listed::row_count` meets its contract. Assumes nothing.
use mathlib.Core.Path.{sym, ◌∙◌}
use Rattle.relations_write.proofs.Lines.{count_none, count-listed}
use Rattle.relations_write.proofs.found.Listed.row_count.Goals as goal

pub returns-then-is_relations : goal.returns-then-is_relations
returns-then-is_relations c = sym (count_none _ _ _ (sym c.is_relations.ensures ∙ c.if-is_relations.true))

pub returns : goal.returns
returns c =
    let e = c in
    c.listed.ensures ∙ sym (count-listed _ _ _ (sym e.is_relations.ensures ∙ e.if-is_relations.false))
