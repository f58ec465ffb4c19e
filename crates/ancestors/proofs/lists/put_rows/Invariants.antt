-- `ancestors::lists::put_rows` meets its contract. Assumes nothing.
use Rattle.std.proofs.Common.{◌≡◌, length}
use Rattle.metafile.specs.Answers.{placed}
use Rattle.ancestors.specs.Lists.{listed_rows}
use Rattle.ancestors.proofs.lists.put_rows.Given as goal

abbrev pub invariant-loop-i : goal.invariant-loop-i
invariant-loop-i l =
    (l.used ≡ length (listed_rows l.marks l.row l.i)) × (l.list ≡ placed 0 (listed_rows l.marks l.row l.i) l.initial.list)
