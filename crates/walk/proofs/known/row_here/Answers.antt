-- `walk::known::row_here` meets its contract. Assumes nothing.
use Rattle.walk.proofs.Cursors.{There, goes-there}
use Rattle.walk.proofs.known.row_here.Goals as goal
use Rattle.walk.proofs.known.row_here.Goals.{Start}

there : (c : Start) → There c.args.file.now c.args.c
there c = goes-there c.args.file.now c.args.c _ c.requires.c_value c.requires.go_value

pub invariant_of-source : goal.invariant_of-source
invariant_of-source c =
    let w = there (goal.at.invariant_of-source c).Start in record { header_is = w.behind.header_is; whole = w.behind.whole }

pub invariant_of-here : goal.invariant_of-here
invariant_of-here c =
    let w = there (goal.at.invariant_of-here c).Start in record { few = w.behind.few; at_is = w.behind.place_is }

pub parts_of-requires : goal.parts_of-requires
parts_of-requires c =
    let w = there (goal.at.parts_of-requires c).Start in record { row_in_bounds = w.turn.row; l_value = w.turn.layout_is }
