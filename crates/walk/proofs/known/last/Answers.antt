-- `walk::known::last` meets its contract. Assumes nothing.
use mathlib.Core.Path.{sym, ◌∙◌}
use Rattle.walk.proofs.Index.{index-long}
use Rattle.walk.proofs.Cursors.{there}
use Rattle.walk.proofs.PlaceLaws.{ended}
use native.Mathlib.Omega.{arith}
use Rattle.walk.proofs.known.last.Goals as goal

pub loop-c-init : goal.loop-c-init
loop-c-init c = c.requires

pub next-c-requires : goal.next-c-requires
next-c-requires c = record { at = c.loop-c.invariant; go_value = c.loop-c-test.true }

pub loop-c-smaller : goal.loop-c-smaller
loop-c-smaller c =
    let n = c in
    let i = n in
    omega (arith, (there i.loop-c.invariant i.loop-c-test.true).turn.row, n.next-c.ensures.1)

pub loop-c-preserved : goal.loop-c-preserved
loop-c-preserved c = c.next-c.ensures.0

pub shape_of-index : goal.shape_of-index
shape_of-index c = let l = c in index-long l.loop-c.invariant.indexed ∙ sym (index-long l.requires.indexed)

pub returns : goal.returns
returns c = let w = c.loop-c.invariant in (ended w c.loop-c-test.false, w.indexed.long)
