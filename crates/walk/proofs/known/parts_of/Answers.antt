-- `walk::known::parts_of` meets its contract. Assumes nothing.
use native.Mathlib.Omega.{arith}
use Rattle.walk.proofs.Loops.{Turn}
use Rattle.walk.proofs.Sources.{turns, behind}
use Rattle.walk.proofs.PlaceLaws.{row-places}
use Rattle.walk.proofs.known.parts_of.Goals as goal
use Rattle.walk.proofs.known.parts_of.Goals.{Start}

next : (c : Start) → Turn c.args.here.source.file.now c.args.here.row c.args.here.at c.args.l
next c = turns c.args.here.source c.args.here.at_is c.requires.row_in_bounds c.requires.l_value

pub serial_place-requires : goal.serial_place-requires
serial_place-requires c =
    let w = next (goal.at.serial_place-requires c).Start in record { at_in_bounds = omega (arith, w.inside); l_value = w.layout_is; number_value = w.whole }

pub overflow_add-result : goal.overflow_add-result
overflow_add-result c = omega (arith, (next (goal.at.overflow_add-result c).Start).inside, c.well_formed)

pub returns : goal.returns
returns c =
    row-places _ _ _ _ (behind c.args.here) c.requires.row_in_bounds c.args.l c.requires.l_value c.serial_place.result c.serial_place.ensures.place c.serial_place.ensures.inside
