-- `directory::look_up` meets its contract. The loop's invariant: each entry with the serial number is reached in the slots that
-- are left. Assumes nothing.
use lib.ListN.{drop}
use Rattle.directory.proofs.Laws.{Ahead}
use Rattle.directory.proofs.look_up.Given as goal

abbrev pub invariant-loop-slot : goal.invariant-loop-slot
invariant-loop-slot l = Ahead l.file l.d l.n l.serial (drop l.slot-index l.slot-items)
