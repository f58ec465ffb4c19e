-- `multi::types::type_rest_fault` meets its contract. Assumes nothing.
use mathlib.Core.List.{[]}
use native.Mathlib.Omega.{arith}
use Rattle.std.proofs.lemmas.Result.{err_from_is_err_and}
use Rattle.lines.proofs.Runs.{takes-fits}
use Rattle.multi.proofs.TypeStages.{rest_end, rest-events, rest-fits, rest-last}
use Rattle.multi.proofs.types.type_rest_fault.Goals as goal

pub returns-in_err-end : goal.returns-in_err-end
returns-in_err-end c =
    let p = err_from_is_err_and c.from_residual.result c.from_residual.ensures.1 in
    rw (p.1, p.2) (rest_end c.args.specific c.in_err-end.ensures)

pub lines_fault-requires : goal.lines_fault-requires
lines_fault-requires c =
    omega (arith, takes-fits _ [] _ _ _ c.in_ok-end.ensures (omega arith))

pub returns-in_err-lines_fault : goal.returns-in_err-lines_fault
returns-in_err-lines_fault c =
    let p = err_from_is_err_and c.from_residual-in_err-lines_fault.result c.from_residual-in_err-lines_fault.ensures.1 in
    rw (p.1, p.2) (rest-events c.args.specific c.in_ok-end.ensures _ c.in_err-lines_fault.ensures)

pub overflow_add-end : goal.overflow_add-end
overflow_add-end c =
    omega (arith, rest-fits c.args.specific c.in_ok-end.ensures c.in_ok-lines_fault.ensures (omega arith))

pub free_fault-requires : goal.free_fault-requires
free_fault-requires c =
    rest-fits c.args.specific c.in_ok-end.ensures c.in_ok-lines_fault.ensures (omega arith)

pub returns : goal.returns
returns c =
    rest-last c.args.specific c.in_ok-end.ensures c.in_ok-lines_fault.ensures c.free_fault.ensures
