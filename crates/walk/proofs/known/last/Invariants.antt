-- `walk::known::last` meets its contract. Assumes nothing.
use Prim.Native.Nat.{◌-◌}
use lib.ListN.{length}
use Rattle.metafile.specs.Reading.{rows_of}
use Rattle.walk.specs.Cursor.{At}
use Rattle.walk.proofs.known.last.Given as goal

abbrev pub invariant-loop-c : goal.invariant-loop-c
invariant-loop-c l = At l.file l.c l.index

abbrev pub decreases-loop-c : goal.decreases-loop-c
decreases-loop-c l = length (rows_of l.file) - l.c.row
