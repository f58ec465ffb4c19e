-- `relations_check::latest::choose` meets its contract. Assumes nothing.
use mathlib.Core.Path.{refl, sym, ◌∙◌}
use native.Mathlib.Omega.{arith}
use Rattle.walk.proofs.Index.{index-long}
use Rattle.walk.proofs.Cursors.{there}
use Rattle.walk.proofs.PlaceLaws.{ended}
use Rattle.relations_check.proofs.Choosing.{holding-none, chosen_is}
use Rattle.relations_check.proofs.latest.choose.Goals as goal

pub loop-c-init : goal.loop-c-init
loop-c-init c = (c.requires.at, rw c.requires.row_value (holding-none c.args.file.now))

pub later-best-requires : goal.later-best-requires
later-best-requires c =
    let l = c in
    let w = l.loop-c.invariant in record { at_row = record { is = w.0.is; goes = c.loop-c-test.true; small = l.requires.file_len_bound }; holding = w.1 }

pub next-c-requires : goal.next-c-requires
next-c-requires c = let i = c in record { at = i.loop-c.invariant.0; go_value = i.loop-c-test.true }

pub loop-c-smaller : goal.loop-c-smaller
loop-c-smaller c =
    let n = c in
    let i = n in
    omega (arith, (there i.loop-c.invariant.0 i.loop-c-test.true).turn.row, n.next-c.ensures.1)

pub loop-c-preserved : goal.loop-c-preserved
loop-c-preserved c =
    let n = c in
    (n.next-c.ensures.0, rw n.next-c.ensures.1 n.later-best.ensures)

pub shape_of-index : goal.shape_of-index
shape_of-index c =
    let l = c in
    index-long l.loop-c.invariant.0.indexed ∙ sym (index-long l.requires.at.indexed)

pub returns : goal.returns
returns c =
    let a = c in
    let w = a.loop-c.invariant in
    (chosen_is _ _ _ w.1 _ (ended w.0 a.loop-c-test.false) refl, w.0.indexed.long)
