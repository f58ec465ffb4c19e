-- `relations_write::found::Listed::count` meets its contract. The loop's invariant: the rows before row k, which begins at `at`, have
-- these lines, each with 344 bytes of its own before that place. Assumes nothing.
use Prim.Native.Nat.{◌*◌, ◌≤◌, ◌<◌}
use mathlib.Core.Path.{◌≡◌}
use lib.ListN.{length}
use Rattle.walk.specs.Cursor.{Behind}
use Rattle.relations_write.proofs.Lines.{lines_to}
use Rattle.relations_write.proofs.found.Listed.count.Given as goal

abbrev pub invariant-loop-k : goal.invariant-loop-k
invariant-loop-k l =
    (0 < l.self.found.rows → Behind l.self.file.now l.h l.k l.at)
    × (l.lines ≡ lines_to l.self.file.now l.k)
    × (344 * l.lines ≤ l.at)
    × (344 * l.lines ≤ length l.self.file.now)
