-- `multi::runs::free_fault` meets its contract. Assumes nothing.
use native.Mathlib.Omega.{arith}
use Rattle.laws.proofs.Stages.{free-short, free-long}
use Rattle.multi.proofs.runs.free_fault.Goals as goal

pub returns-then-r-at : goal.returns-then-r-at
returns-then-r-at c =
    let a = c.args in
    free-short a.n a.at a.r.now (omega arith) (omega arith)

pub returns : goal.returns
returns c =
    let a = c.args in
    free-long a.n a.at a.r.now (omega arith) (omega arith)
