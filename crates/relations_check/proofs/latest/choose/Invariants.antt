-- `relations_check::latest::choose` meets its contract. Assumes nothing.
use Prim.Native.Nat.{◌-◌}
use lib.ListN.{length}
use Rattle.metafile.specs.Reading.{rows_of}
use Rattle.walk.specs.Cursor.{At}
use Rattle.relations_check.specs.Latest.{Holding}
use Rattle.relations_check.proofs.latest.choose.Given as goal

abbrev pub invariant-loop-c : goal.invariant-loop-c
invariant-loop-c l = At l.file l.c l.index × Holding l.file l.c.row l.best

abbrev pub decreases-loop-c : goal.decreases-loop-c
decreases-loop-c l = length (rows_of l.file) - l.c.row
