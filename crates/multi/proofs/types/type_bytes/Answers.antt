-- `multi::types::type_bytes` meets its contract. Assumes nothing.
use native.Mathlib.Omega.{arith}
use lib.ListN.{drop}
use Rattle.multi.proofs.TypeStages.{bytes-are}
use Rattle.multi.proofs.TypeWalk.{type-least}
use Rattle.multi.proofs.types.type_bytes.Goals as goal

pub length_at-long-requires : goal.length_at-long-requires
length_at-long-requires c =
    let a = c.args in
    omega (arith, type-least (drop a.at a.r.now))

pub overflow_add-result : goal.overflow_add-result
overflow_add-result c =
    let a = c.args in
    omega (arith, bytes-are a.at _ a.r.now c.length_at-long.ensures)

pub returns : goal.returns
returns c =
    let a = c.args in
    omega (arith, bytes-are a.at _ a.r.now c.length_at-long.ensures)
