-- `walk::cursor::next` meets its contract. Assumes nothing.
use native.Mathlib.Omega.{arith}
use Rattle.walk.proofs.Cursors.{there, onward}
use Rattle.walk.proofs.cursor.next.Goals as goal

pub overflow_add-c : goal.overflow_add-c
overflow_add-c c = let k = c in omega (arith, (there k.requires.at k.requires.go_value).turn.few, k.well_formed)

pub overflow_add-c-2 : goal.overflow_add-c-2
overflow_add-c-2 c = let k = c in omega (arith, (there k.requires.at k.requires.go_value).turn.inside, k.well_formed)

pub behind-requires : goal.behind-requires
behind-requires c =
    let k = c in record { behind = onward (there k.requires.at k.requires.go_value); indexed = k.requires.at.indexed }
