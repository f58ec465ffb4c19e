-- `lines::run::read_line` meets its contract. Assumes nothing.
use mathlib.Core.Path.{refl}
use mathlib.Core.List.{[]}
use native.Mathlib.Omega.{arith}
use Rattle.metafile.specs.Lines.{opened}
use Rattle.table.specs.Codes.{line_no}
use Rattle.lines.proofs.Runs.{opened-small, line_first, line-both, takes-fits}
use Rattle.lines.proofs.run.read_line.Goals as goal

pub read_field-requires : goal.read_field-requires
read_field-requires c =
    omega (arith, takes-fits (opened (line_no c.args.i)) [] c.args.s.now c.args.at _ c.in-Ok.ensures (omega arith))

pub overflow_add-result : goal.overflow_add-result
overflow_add-result c = omega (arith, opened-small c.args.i (omega arith), c.in-Err.ensures.behind)

pub returns-in-Ok : goal.returns-in-Ok
returns-in-Ok c = line-both c.args.i c.args.s.now c.args.at _ _ c.in-Ok.ensures c.read_field.ensures

pub returns-in-Err : goal.returns-in-Err
returns-in-Err c =
    line_first c.args.i c.args.s.now c.args.at (omega arith) c.in-Err.line _ c.in-Err.ensures refl refl
