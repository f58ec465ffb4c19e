-- `lines::reader::field_at` meets its contract. Assumes nothing.
use mathlib.Core.Path.{◌∙◌}
use native.Mathlib.Omega.{arith}
use Rattle.laws.proofs.Loops.{part-drop}
use Rattle.lines.proofs.Runs.{label-taken, value_taken, end-taken, long-is, wide_is}
use Rattle.lines.proofs.reader.field_at.Goals as goal

pub returns-then-part-eq-LABEL : goal.returns-then-part-eq-LABEL
returns-then-part-eq-LABEL c =
    let line = c.line_at-line in
    label-taken c.args.i c.args.part c.args.at c.args.s.now _ c.if-part-eq-LABEL.true (c.taken.ensures.0 ∙ c.label_fault.ensures) (omega (arith, c.taken.ensures.1, long-is c.args.i (omega arith) line.result line.ensures))

pub returns-then-part-eq-VALUE : goal.returns-then-part-eq-VALUE
returns-then-part-eq-VALUE c =
    let line = c.line_at-line in
    value_taken c.args.i c.args.part c.args.at c.args.s.now _ c.if-part-eq-VALUE.true (c.taken-then-part-eq-VALUE.ensures.0 ∙ (rw (part-drop c.args.s.now c.args.at) at c.value_fault.ensures)) (omega (arith, c.taken-then-part-eq-VALUE.ensures.1, wide_is c.args.i (omega arith) line.result line.ensures))

pub returns : goal.returns
returns c = end-taken c.args.i c.args.part c.args.at c.args.s.now _ c.if-part-eq-LABEL.false c.if-part-eq-VALUE.false (omega arith) (c.taken-2.ensures.0 ∙ c.lf_fault.ensures) c.taken-2.ensures.1
