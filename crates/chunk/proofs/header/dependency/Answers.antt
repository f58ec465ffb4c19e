-- `chunk::header::dependency` meets its contract. Assumes nothing.
use mathlib.Core.Path.{refl}
use mathlib.Core.List.{[], ◌∷◌}
use native.Mathlib.Omega.{arith}
use Rattle.metafile.specs.Lines.{lines_of}
use Rattle.table.specs.Codes.{line_no}
use Rattle.lines.proofs.Runs.{takes-fits}
use Rattle.chunk.proofs.Headers.{serial-stop, serial-go}
use Rattle.chunk.proofs.header.dependency.Goals as goal

pub read_line-requires-in-Ok : goal.read_line-requires-in-Ok
read_line-requires-in-Ok c =
    (takes-fits (lines_of (line_no 9 ∷ [])) [] c.args.s.now c.args.at _ c.in-Ok.ensures (omega arith), omega arith)

pub returns-in-Ok : goal.returns-in-Ok
returns-in-Ok c = serial-go c.in-Ok.ensures c.read_line-in-Ok.ensures

pub returns-in-Err : goal.returns-in-Err
returns-in-Err c = serial-stop c.in-Err.ensures refl refl
