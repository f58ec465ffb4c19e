-- `lines::reader::lf_fault` meets its contract. Assumes nothing.
use Rattle.lines.proofs.Runs.{lf-short, lf-bad, lf-good}
use native.Mathlib.Omega.{arith}
use Rattle.lines.proofs.reader.lf_fault.Goals as goal

pub returns-then-s-at : goal.returns-then-s-at
returns-then-s-at c = lf-short c.args.s.now c.args.at c.if-s-at.true

pub returns-then-s-at-ne10 : goal.returns-then-s-at-ne10
returns-then-s-at-ne10 c = lf-bad c.args.s.now c.args.at (omega arith) c.if-s-at-ne10.true

pub returns : goal.returns
returns c = lf-good c.args.s.now c.args.at (omega arith) c.if-s-at-ne10.false
