-- `multi::gather::is_declared` meets its contract. The loop: the short ID is declared as it is by the
-- types left. Assumes nothing.
use Prim.Native.Nat.{◌-◌}
use Rattle.multi.proofs.TypeWalk.{Left}
use Rattle.multi.proofs.gather.is_declared.Given as goal

abbrev pub invariant-loop : goal.invariant-loop
invariant-loop l = Left l.id l.r l.at (l.end - l.counter)
