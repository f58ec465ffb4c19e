-- `search::horspool::sought` meets its contract. The loop's invariant: the mark does not begin before `place`, and what was
-- counted is the count up to there, at most one a byte. The measure is what is left of the bytes. Assumes nothing.
use Prim.Native.Nat.{◌-◌, ◌≤◌}
use lib.ListN.{length}
use Rattle.search.proofs.Laws.{Passed}
use Rattle.search.proofs.Shifts.{Counted}
use Rattle.search.proofs.horspool.sought.Given as goal

abbrev pub invariant-loop-place : goal.invariant-loop-place
invariant-loop-place l = (l.place ≤ length l.s) × (l.tried ≤ l.place) × Passed l.mark l.s l.place × Counted l.mark l.s l.place l.tried

abbrev pub decreases-loop-place : goal.decreases-loop-place
decreases-loop-place l = length l.s - l.place
