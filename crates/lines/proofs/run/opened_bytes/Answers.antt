-- `lines::run::opened_bytes` meets its contract. Assumes nothing.
use Rattle.lines.proofs.Runs.{opened-size, opened-small}
use native.Mathlib.Omega.{arith}
use Rattle.lines.proofs.run.opened_bytes.Goals as goal

pub overflow_add-result : goal.overflow_add-result
overflow_add-result c =
    let i = c.args.i in
    let line = c.line_at-line in
    omega (arith, opened-size i (omega arith) line.result line.ensures, opened-small i (omega arith))

pub returns : goal.returns
returns c = opened-size c.args.i (omega arith) c.line_at-line.result c.line_at-line.ensures
