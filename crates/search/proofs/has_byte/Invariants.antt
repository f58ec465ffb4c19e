-- `search::has_byte` meets its contract. The loop's invariant: the byte occurs if it is among the bytes passed or in the rest.
-- Assumes nothing.
use Rattle.std.proofs.Common.{◌≡◌, ◌||◌, drop}
use Rattle.search.specs.Shifts.{is_in}
use Rattle.search.proofs.has_byte.Given as goal

abbrev pub invariant-loop-i : goal.invariant-loop-i
invariant-loop-i l = is_in l.b l.s ≡ (l.found || is_in l.b (drop l.i l.s))
