-- `multi::gather::minis_place` meets its contract. Assumes nothing.
use native.Mathlib.Omega.{arith}
use Rattle.metafile.specs.Multi.{multi_length}
use Rattle.multi.proofs.TypeWalk.{place-fits, place-past, place_is}
use Rattle.multi.proofs.gather.minis_place.Goals as goal

pub length_at-requires : goal.length_at-requires
length_at-requires c =
    omega (arith, place-fits c.args.r.now c.requires, place-past c.args.r.now)

pub overflow_add-result : goal.overflow_add-result
unfolding multi_length
overflow_add-result c =
    omega (arith, place-fits c.args.r.now c.requires, place_is c.args.r.now c.requires, c.length_at.ensures)

pub returns : goal.returns
unfolding multi_length
returns c = omega (arith, place_is c.args.r.now c.requires, c.length_at.ensures)
