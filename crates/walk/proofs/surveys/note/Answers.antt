-- `walk::surveys::note` meets its contract. Assumes nothing.
use Prim.Native.Nat.{◌+◌, ◌<◌}
use mathlib.Core.Path.{◌≡◌, refl, ◌∙◌}
use mathlib.Core.List.{◌++◌}
use native.Mathlib.Omega.{arith}
use lib.ListN.{length, take, drop}
use Rattle.walk.specs.Survey.{noted}
use Rattle.walk.proofs.Notes.{note-values, note-rows, note-here, note-other}
use Rattle.laws.proofs.First.{test}
use lib.Dec.{leb}
use borrow.Author.Tests.{leb-true, leb-false}
use Rattle.walk.proofs.surveys.note.Goals as goal
use Rattle.walk.proofs.surveys.note.Goals.{then-rows-j, else-rows-j}

pub loop-j-init : goal.loop-j-init
loop-j-init c = (refl, refl)

pub bounds-rows-j : goal.bounds-rows-j
bounds-rows-j c = omega (arith, c.min-j-end.ensures, c.loop-j-test.true)

pub bounds-values-j : goal.bounds-values-j
bounds-values-j c = omega (arith, c.min-j-end.ensures, c.loop-j-test.true, c.loop-j.invariant.0)

pub loop-j-preserved : goal.loop-j-preserved
loop-j-preserved c =
    let values : c.loop-j.j < length c.loop-j.values = omega (arith, c.min-j-end.ensures, c.loop-j-test.true, c.loop-j.invariant.0) in
    let rows : c.loop-j.j < length c.args.rows.now = omega (arith, c.min-j-end.ensures, c.loop-j-test.true) in
    let p : (length c.if-rows-j.values ≡ length c.loop-j.values)
    × (noted c.args.i c.args.value c.args.values.now c.args.rows.now
    ≡ take (c.loop-j.j + 1) c.if-rows-j.values ++ noted c.args.i c.args.value (drop (c.loop-j.j + 1) c.if-rows-j.values) (drop (c.loop-j.j + 1) c.args.rows.now)) =
    elim c.if-rows-j.branch [
      | then-rows-j w ↦ note-here _ _ _ _ _ _ c.loop-j.invariant.1 values rows _ w.values-is w.if-rows-j.true
      | else-rows-j w ↦ note-other _ _ _ _ _ _ c.loop-j.invariant.1 values rows _ w.values-is w.if-rows-j.false
    ] in
    (p.0 ∙ c.loop-j.invariant.0, p.1)

pub returns : goal.returns
returns c =
    test (leb (length c.loop-j.values) c.loop-j.j)
    (λ q. note-values _ _ _ _ _ _ c.loop-j.invariant.1 (leb-true _ _ q))
    (λ q. note-rows _ _ _ _ _ _ c.loop-j.invariant.1 (let few = leb-false _ _ q in omega (arith, c.min-j-end.ensures, c.loop-j-test.false, c.loop-j.invariant.0)))
