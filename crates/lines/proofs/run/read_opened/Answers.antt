-- `lines::run::read_opened` meets its contract. Assumes nothing.
use mathlib.Core.Path.{refl}
use mathlib.Core.List.{[], ◌∷◌}
use native.Mathlib.Omega.{arith}
use Rattle.lines.specs.Parts.{field_no}
use Rattle.lines.proofs.Runs.{opened-small, opened-first, opened_both, takes-fits}
use Rattle.lines.proofs.run.read_opened.Goals as goal

pub read_field-requires-in-Ok : goal.read_field-requires-in-Ok
read_field-requires-in-Ok c =
    omega (arith, takes-fits (field_no c.args.i 0 ∷ []) [] c.args.s.now c.args.at _ c.in-Ok.ensures (omega arith))

pub overflow_add-result : goal.overflow_add-result
overflow_add-result c = omega (arith, opened-small c.args.i (omega arith), c.opened_bytes.ensures)

pub returns-in-Ok : goal.returns-in-Ok
returns-in-Ok c = opened_both c.args.i c.args.s.now c.args.at _ _ c.in-Ok.ensures c.read_field-in-Ok.ensures

pub returns-in-Err : goal.returns-in-Err
returns-in-Err c =
    opened-first c.args.i c.args.s.now c.args.at c.in-Err.label _ c.in-Err.ensures refl (omega (arith, c.opened_bytes.ensures))
