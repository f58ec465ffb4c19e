-- `relations_check::window::fill` meets its contract. Assumes nothing.
use Prim.Native.Nat.{◌+◌, ◌-◌}
use mathlib.Core.Path.{◌≡◌}
use Rattle.directory.specs.Directory.{Empty}
use Rattle.walk.specs.Cursor.{Behind}
use Rattle.relations_check.specs.Window.{WindowOf}
use Rattle.relations_check.proofs.window.fill.Given as goal

abbrev pub invariant-loop-n : goal.invariant-loop-n
invariant-loop-n l = Behind l.file l.h (l.from + l.n) l.at × WindowOf l.file l.d l.from l.n × (l.n ≡ 0 → Empty l.d)

abbrev pub decreases-loop-n : goal.decreases-loop-n
decreases-loop-n l = l.rows - l.from - l.n
