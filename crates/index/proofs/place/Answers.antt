-- `index::place` meets its contract. Assumes nothing.
use mathlib.Core.Path.{refl}
use native.Mathlib.Omega.{arith}
use Rattle.index.specs.Index.{size}
use Rattle.index.proofs.Loops.{place-near, place-far}
use Rattle.index.proofs.place.Goals as goal

pub returns-in-Some : goal.returns-in-Some
unfolding size
returns-in-Some c =
    place-near c.args.hash c.args.index.now c.slot-from.result c.tag.result c.in-Some.steps c.slot-from.ensures.0 c.tag.ensures
    (omega arith) c.in-Some.ensures.0 (omega arith)

pub returns-in-None : goal.returns-in-None
unfolding size
returns-in-None c =
    place-far c.args.hash c.args.index.now c.slot-from.result c.tag.result _ c.slot-from.ensures.0 c.tag.ensures
    (omega arith) refl (omega (arith, c.in-None.ensures))
