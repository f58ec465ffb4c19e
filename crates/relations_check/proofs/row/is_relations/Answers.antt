-- `relations_check::row::is_relations` meets its contract. Assumes nothing.
use Prim.Native.Nat.{ℕ, ◌+◌, ◌≤◌}
use mathlib.Core.Path.{ap, ◌∙◌}
use native.Mathlib.Omega.{arith}
use lib.ListN.{length, drop}
use Rattle.metafile.specs.Calls.{chunk_of}
use Rattle.metafile.specs.Relations.{is_relations}
use Rattle.relations_check.proofs.Choosing.{row_named}
use Rattle.relations_check.proofs.Judgings.{name-given}
use Rattle.relations_check.proofs.row.is_relations.Goals as goal
use Rattle.relations_check.proofs.row.is_relations.Goals.{Start}

inside : (k : Start) → k.args.c.at + 568 ≤ length k.args.file.now
inside k = let w = row_named k.requires in omega (arith, w.lies.dependencies-inside, w.place_is)

pub overflow_add-name : goal.overflow_add-name
overflow_add-name c = let k = c in omega (arith, inside (goal.at.overflow_add-name c).Start, k.requires.small)

pub overflow_add-name-2 : goal.overflow_add-name-2
overflow_add-name-2 c = let k = c in omega (arith, inside (goal.at.overflow_add-name-2 c).Start, k.requires.small)

pub slice_bounds-is_relations-end : goal.slice_bounds-is_relations-end
slice_bounds-is_relations-end c = omega (arith, inside (goal.at.slice_bounds-is_relations-end c).Start)

pub returns : goal.returns
unfolding chunk_of
returns c =
    let k = c in
    let file = k.args.file.now in
    c.is_relations.ensures
    ∙ (name-given file k.args.c.at (omega (arith, inside (goal.at.returns c).Start))).1
    ∙ ap (λ (p : ℕ). is_relations (drop p file)) (row_named k.requires).place_is
