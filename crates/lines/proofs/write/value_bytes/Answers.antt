-- `lines::write::value_bytes` meets its contract. Assumes nothing.
use Rattle.lines.proofs.Runs.{wide_is}
use native.Mathlib.Omega.{arith}
use Rattle.lines.proofs.write.value_bytes.Goals as goal

pub returns : goal.returns
returns c = wide_is c.args.i (omega arith) c.line_at-line.result c.line_at-line.ensures
