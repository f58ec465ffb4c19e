-- `relations_write::found::enter_rows` meets its contract. The loop's invariant: the n entries are the relations rows before row
-- k, which begins at `at`. Assumes nothing.
use Prim.Native.Nat.{◌-◌, ◌≤◌, ◌<◌}
use Rattle.walk.specs.Cursor.{Behind}
use Rattle.relations_write.specs.Found.{Held}
use Rattle.relations_write.proofs.found.enter_rows.Given as goal

abbrev pub invariant-loop-k : goal.invariant-loop-k
invariant-loop-k l = (0 < l.rows → Behind l.file l.header l.k l.at) × (l.k ≤ l.rows) × Held l.file l.d l.k l.n

abbrev pub decreases-loop-k : goal.decreases-loop-k
decreases-loop-k l = l.rows - l.k
