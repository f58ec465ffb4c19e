-- `walk::earlier::row_between` meets its contract. Assumes nothing.
use Prim.Native.Nat.{◌≤◌}
use mathlib.Core.Path.{◌≡◌}
use Rattle.metafile.specs.Reading.{rows_of}
use Rattle.metafile.specs.Calls.{row_with}
use Rattle.walk.specs.Walk.{place_after}
use Rattle.walk.proofs.earlier.row_between.Given as goal

-- the serial number is in no row from i up to this one
abbrev pub invariant-loop-row : goal.invariant-loop-row
invariant-loop-row l =
    (l.at ≡ place_after l.fn.source.file.now l.row) × (l.i ≤ row_with l.serial (rows_of l.fn.source.file.now) → l.row ≤ row_with l.serial (rows_of l.fn.source.file.now))
