-- `walk::walks::row_with` meets its contract. Assumes nothing.
use Prim.Native.Nat.{◌-◌}
use mathlib.Core.Bool.{false}
use mathlib.Core.Path.{◌≡◌}
use lib.ListN.{length, take}
use Rattle.metafile.specs.Fields.{known}
use Rattle.metafile.specs.Reading.{rows_of, serials_of}
use Rattle.walk.specs.Cursor.{At}
use Rattle.walk.proofs.walks.row_with.Given as goal

abbrev pub invariant-loop-c : goal.invariant-loop-c
invariant-loop-c l = At l.file l.c l.index × (known l.serial (serials_of (take l.c.row (rows_of l.file))) ≡ false)

abbrev pub decreases-loop-c : goal.decreases-loop-c
decreases-loop-c l = length (rows_of l.file) - l.c.row
