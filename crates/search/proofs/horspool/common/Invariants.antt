-- `search::horspool::common` meets its contract. The loop's invariant: the first `at` bytes agree. The measure is what is left
-- of the mark. Assumes nothing.
use Rattle.std.proofs.Common.{◌-◌, ◌≤◌, length}
use Rattle.search.proofs.Shifts.{Agreed}
use Rattle.search.proofs.horspool.common.Given as goal

abbrev pub invariant-loop-at : goal.invariant-loop-at
invariant-loop-at l = (l.at ≤ length l.mark) × Agreed l.mark l.s l.at

abbrev pub decreases-loop-at : goal.decreases-loop-at
decreases-loop-at l = length l.mark - l.at
