-- `search::horspool::shifts` meets its contract. The loop's invariant: the table's entries and what is left of the mark from
-- `i` on make the shifts. Assumes nothing.
use Rattle.std.proofs.Common.{◌≡◌, length}
use Rattle.search.proofs.Shifts.{Made}
use Rattle.search.proofs.horspool.shifts.Given as goal

abbrev pub invariant-loop-i : goal.invariant-loop-i
invariant-loop-i l = (length l.table ≡ 256) × Made l.mark l.i l.table
