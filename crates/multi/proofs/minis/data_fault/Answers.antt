-- `multi::minis::data_fault` meets its contract. Assumes nothing.
use native.Mathlib.Omega.{arith}
use Rattle.std.proofs.lemmas.Result.{err_from_is_err_and}
use Rattle.multi.proofs.MiniStages.{data-stop, data-fits, data-last}
use Rattle.multi.proofs.minis.data_fault.Goals as goal

pub returns-in_err-behind : goal.returns-in_err-behind
returns-in_err-behind c =
    let p = err_from_is_err_and c.from_residual.result c.from_residual.ensures.1 in
    rw (p.1, p.2) (data-stop c.in_err-behind.ensures)

pub length_at-requires : goal.length_at-requires
length_at-requires c = (data-fits c.in_ok-behind.ensures (omega arith)).0

pub free_fault-requires : goal.free_fault-requires
free_fault-requires c = (data-fits c.in_ok-behind.ensures (omega arith)).1

pub returns : goal.returns
returns c = data-last c.in_ok-behind.ensures c.length_at.ensures c.free_fault.ensures
