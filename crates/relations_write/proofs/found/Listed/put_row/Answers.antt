-- `relations_write::found::Listed::put_row` meets its contract. Assumes nothing.
use mathlib.Core.Bool.{false}
use mathlib.Core.Path.{◌≡◌, sym, ◌∙◌}
use lib.ListN.{drop}
use Rattle.metafile.specs.Relations.{is_relations}
use Rattle.relations_write.proofs.Lines.{count-listed, relations-put, lines-listed}
use Rattle.relations_write.proofs.found.Listed.put_row.Goals as goal
use Rattle.relations_write.proofs.found.Listed.put_row.Goals.{Else-is_relations}

pub returns-then-is_relations : goal.returns-then-is_relations
returns-then-is_relations c =
    let i = c in
    let a = i.args in
    relations-put a.self.file.now _ _ a.n (sym i.is_relations.ensures ∙ c.if-is_relations.true) a.p a.buffer.now

-- the row is no relations row
other : (c : Else-is_relations) → is_relations (drop c.args.at c.args.self.file.now) ≡ false
other c = sym c.is_relations.ensures ∙ c.if-is_relations.false

pub put_listed-requires : goal.put_listed-requires
put_listed-requires c =
    let e = c in
    let k = e in record { n_in_bounds = k.requires.n_in_bounds; serial_in_bounds = k.requires.serial_in_bounds; file_in_bounds = rw (count-listed _ _ k.args.n (other (goal.at.put_listed-requires c).Else-is_relations)) at k.requires.n_in_bounds_2 }

pub returns : goal.returns
returns c =
    let p = c in
    let e = p in
    let a = e.args in
    rw (count-listed _ _ a.n (other (goal.at.returns c).Else-is_relations), lines-listed a.self.file.now _ _ a.n (other (goal.at.returns c).Else-is_relations)) p.put_listed.ensures
