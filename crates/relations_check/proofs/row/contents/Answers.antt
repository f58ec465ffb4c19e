-- `relations_check::row::contents` meets its contract. Assumes nothing.
use Prim.Native.Nat.{◌+◌, ◌≤◌}
use native.Mathlib.Omega.{arith}
use lib.ListN.{length}
use Rattle.relations_check.proofs.Choosing.{row_named}
use Rattle.relations_check.proofs.Judgings.{contents-given}
use Rattle.relations_check.proofs.row.contents.Goals as goal
use Rattle.relations_check.proofs.row.contents.Goals.{Start}

inside : (k : Start) → k.args.c.at + k.args.c.layout.contents + k.args.c.layout.bytes ≤ length k.args.file.now
inside k = let w = row_named k.requires in omega (arith, w.lies.contents-inside, w.contents-is, w.bytes-is)

pub overflow_add-from : goal.overflow_add-from
overflow_add-from c = let k = c in omega (arith, inside (goal.at.overflow_add-from c).Start, k.requires.small)

pub overflow_add-result : goal.overflow_add-result
overflow_add-result c = let k = c in omega (arith, inside (goal.at.overflow_add-result c).Start, k.requires.small)

pub slice_bounds-result-end : goal.slice_bounds-result-end
slice_bounds-result-end c = omega (arith, inside (goal.at.slice_bounds-result-end c).Start)

pub returns : goal.returns
returns c =
    let k = c in
    contents-given k.args.file.now k.args.c.row k.args.c (row_named k.requires)
