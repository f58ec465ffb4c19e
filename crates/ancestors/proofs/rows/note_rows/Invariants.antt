-- `ancestors::rows::note_rows` meets its contract. Assumes nothing.
use Rattle.std.proofs.Common.{◌-◌, length}
use Rattle.metafile.specs.Reading.{rows_of}
use Rattle.walk.specs.Cursor.{At}
use Rattle.ancestors.specs.Noted.{Noted}
use Rattle.ancestors.proofs.rows.note_rows.Given as goal

abbrev pub invariant-loop-c : goal.invariant-loop-c
invariant-loop-c l = At l.file l.c l.index × Noted l.file l.c.row l.rows

abbrev pub decreases-loop-c : goal.decreases-loop-c
decreases-loop-c l = length (rows_of l.file) - l.c.row
