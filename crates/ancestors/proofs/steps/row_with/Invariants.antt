-- `ancestors::steps::row_with` meets its contract. Assumes nothing.
use Rattle.std.proofs.Common.{◌≤◌}
use Rattle.metafile.specs.Bytes.{part}
use Rattle.metafile.specs.Reading.{rows_of}
use Rattle.metafile.specs.Calls.{row_with}
use Rattle.ancestors.proofs.steps.row_with.Given as goal

abbrev pub invariant-loop-i : goal.invariant-loop-i
invariant-loop-i l = l.i ≤ row_with (part l.serial 38 l.file) (rows_of l.file)
