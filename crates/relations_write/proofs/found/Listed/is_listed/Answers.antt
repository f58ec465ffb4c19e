-- `relations_write::found::Listed::is_listed` meets its contract. Assumes nothing.
use mathlib.Core.Path.{refl}
use Rattle.relations_write.proofs.Finds.{unlisted, listed-is}
use Rattle.relations_write.proofs.found.Listed.is_listed.Goals as goal

pub returns-then-is_relations : goal.returns-then-is_relations
returns-then-is_relations c =
    let a = c.args in
    unlisted a.self.file.now a.at a.j _ refl _ c.is_relations.ensures c.if-is_relations.true

pub returns : goal.returns
returns c =
    let e = c in
    let a = e.args in
    listed-is a.self.file.now a.at a.j _ refl _ e.is_relations.ensures e.if-is_relations.false _ c.finds.ensures
