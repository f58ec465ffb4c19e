-- `multi::minis::minis_part` meets its contract. The loop: the mini-chunks from the start on have the
-- faults and the end of those left. Assumes nothing.
use Prim.Native.Nat.{◌-◌}
use lib.ListN.{length}
use Rattle.multi.proofs.MiniWalk.{Walk}
use Rattle.multi.proofs.minis.minis_part.Given as goal

abbrev pub invariant-loop-start : goal.invariant-loop-start
invariant-loop-start l = Walk l.ids l.r l.start l.at

abbrev pub decreases-loop-start : goal.decreases-loop-start
decreases-loop-start l = length l.r - l.at
