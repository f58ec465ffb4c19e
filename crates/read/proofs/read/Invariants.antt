-- What holds of the cursor, the table and the index where the loop's test is reached is in proofs/Turns. Assumes nothing.
use Rattle.std.proofs.Common.{◌-◌, length}
use Rattle.metafile.specs.Reading.{rows_of}
use Rattle.read.proofs.Turns.{Facts}
use Rattle.read.proofs.read.Given as goal

abbrev pub invariant-loop-c : goal.invariant-loop-c
invariant-loop-c l = Facts l.file l.initial.rows l.c l.rows l.index

abbrev pub decreases-loop-c : goal.decreases-loop-c
decreases-loop-c l = length (rows_of l.file) - l.c.row
