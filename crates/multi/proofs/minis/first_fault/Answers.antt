-- `multi::minis::first_fault` meets its contract. Assumes nothing.
use native.Mathlib.Omega.{arith}
use Rattle.multi.proofs.MiniStages.{first_short, first-here, first-other}
use Rattle.multi.proofs.minis.first_fault.Goals as goal

pub returns-then-r-at-lt-MINI_ID : goal.returns-then-r-at-lt-MINI_ID
returns-then-r-at-lt-MINI_ID c =
    let a = c.args in
    first_short a.at a.r.now (omega arith)

pub returns-then-is_mini : goal.returns-then-is_mini
returns-then-is_mini c =
    let a = c.args in
    first-here a.at a.r.now (omega arith) c.is_mini.ensures c.if-is_mini.true

pub returns-else-is_mini : goal.returns-else-is_mini
returns-else-is_mini c =
    let a = c.args in
    first-other a.at a.r.now (omega arith) c.is_mini.ensures c.if-is_mini.false
