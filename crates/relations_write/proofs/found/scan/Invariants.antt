-- `relations_write::found::scan` meets its contract. The loop's invariant: the serial number is in no row from `from` up to row
-- k, which begins at `at`. Assumes nothing.
use Prim.Native.Nat.{◌≤◌}
use Rattle.metafile.specs.Reading.{rows_of}
use Rattle.metafile.specs.Calls.{row_with}
use Rattle.walk.specs.Cursor.{Behind}
use Rattle.relations_write.proofs.found.scan.Given as goal

abbrev pub invariant-loop-k : goal.invariant-loop-k
invariant-loop-k l =
    Behind l.file l.h l.k l.at × (l.from ≤ row_with l.serial (rows_of l.file) → l.k ≤ row_with l.serial (rows_of l.file))
