-- `walk::surveys::survey` meets its contract. Assumes nothing.
use Prim.Native.Nat.{◌-◌}
use mathlib.Core.Path.{◌≡◌}
use lib.ListN.{length, take}
use Rattle.metafile.specs.Fields.{known}
use Rattle.metafile.specs.Reading.{rows_of, serials_of}
use Rattle.walk.specs.Cursor.{At}
use Rattle.walk.specs.Survey.{values_below}
use Rattle.walk.proofs.Notes.{place_no, end_no}
use Rattle.walk.proofs.surveys.survey.Given as goal

abbrev pub invariant-loop-c : goal.invariant-loop-c
invariant-loop-c l =
    At l.file l.c l.index × (l.places ≡ values_below 16 (place_no l.file) l.c.row l.parents) × (l.ends ≡ values_below 16 (end_no l.file) l.c.row l.parents)
    × (l.known ≡ known l.serial (serials_of (take l.c.row (rows_of l.file))))

abbrev pub decreases-loop-c : goal.decreases-loop-c
decreases-loop-c l = length (rows_of l.file) - l.c.row
