-- `search::find_inside` meets its contract. The loop's invariant: the mark does not begin before `p`, and `p` is inside the
-- text or at its end. The measure is what is left of the text. Assumes nothing.
use Prim.Native.Nat.{◌-◌, ◌≤◌}
use mathlib.Core.List.{◌++◌}
use lib.ListN.{length}
use Rattle.search.proofs.Laws.{Passed}
use Rattle.search.proofs.find_inside.Given as goal

abbrev pub invariant-loop-p : goal.invariant-loop-p
invariant-loop-p l = (l.p ≤ length l.text) × Passed l.mark (l.text ++ l.tail) l.p

abbrev pub decreases-loop-p : goal.decreases-loop-p
decreases-loop-p l = length l.text - l.p
