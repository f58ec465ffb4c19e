-- `multi::minis::mini_bytes` meets its contract. Assumes nothing.
use native.Mathlib.Omega.{arith}
use Rattle.multi.proofs.MiniStages.{data_is}
use Rattle.multi.proofs.minis.mini_bytes.Goals as goal

pub overflow_add-result : goal.overflow_add-result
overflow_add-result c =
    let a = c.args in
    omega (arith, data_is a.at a.r.now c.length_at.ensures)

pub returns : goal.returns
returns c =
    let a = c.args in
    omega (arith, data_is a.at a.r.now c.length_at.ensures)
