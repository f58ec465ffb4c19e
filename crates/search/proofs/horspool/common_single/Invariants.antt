-- `search::horspool::common_single` meets its contract. The loop's invariant: the first `i` bytes agree. Assumes nothing.
use Rattle.search.proofs.Shifts.{Agreed}
use Rattle.search.proofs.horspool.common_single.Given as goal

abbrev pub invariant-loop-i : goal.invariant-loop-i
invariant-loop-i l = Agreed l.mark l.s l.i
