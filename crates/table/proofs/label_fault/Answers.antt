-- `table::label_fault` meets its contract: the bytes are compared with the line's label. Assumes nothing.
use mathlib.Core.Path.{sym, ◌∙◌}
use native.Mathlib.Omega.{arith}
use Rattle.laws.proofs.First.{require-met, require-unmet}
use Rattle.table.proofs.Labels.{label-room, label-taken, label-short, label-compared}
use Rattle.table.proofs.label_fault.Goals as goal

pub returns-then-s-at : goal.returns-then-s-at
returns-then-s-at c =
    let at = c.args in
    let line = c.line_at-line in
    label-short at.i (omega arith) line.result line.ensures at.s.now at.at (omega arith)

pub slice_bounds-label-end : goal.slice_bounds-label-end
slice_bounds-label-end c =
    let at = c.args in
    let line = c.line_at-line in
    label-room at.i (omega arith) line.result line.ensures

pub slice_bounds-same_bytes-end-2 : goal.slice_bounds-same_bytes-end-2
slice_bounds-same_bytes-end-2 c =
    let at = c.args in
    let line = c.line_at-line in
    label-taken at.i (omega arith) line.result line.ensures

pub returns-then-same_bytes : goal.returns-then-same_bytes
returns-then-same_bytes c =
    let at = c.args in
    let line = c.line_at-line in
    let test = c.same_bytes in
    sym (require-met test.result 5 c.if-same_bytes.true)
    ∙ label-compared at.i (omega arith) line.result line.ensures at.s.now at.at (omega arith) test.result test.ensures

pub returns : goal.returns
returns c =
    let at = c.args in
    let line = c.line_at-line in
    let test = c.same_bytes in
    sym (require-unmet test.result 5 c.if-same_bytes.false)
    ∙ label-compared at.i (omega arith) line.result line.ensures at.s.now at.at (omega arith) test.result test.ensures
