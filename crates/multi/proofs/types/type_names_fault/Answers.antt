-- `multi::types::type_names_fault` meets its contract. Assumes nothing.
use mathlib.Core.List.{[]}
use native.Mathlib.Omega.{arith}
use Rattle.std.proofs.lemmas.Result.{err_from_is_err_and}
use Rattle.lines.proofs.Runs.{takes-fits}
use Rattle.multi.proofs.TypeStages.{names-end, names-first, names-fit, names-last}
use Rattle.multi.proofs.types.type_names_fault.Goals as goal

pub returns-in_err-end : goal.returns-in_err-end
returns-in_err-end c =
    let p = err_from_is_err_and c.from_residual.result c.from_residual.ensures.1 in
    rw (p.1, p.2) (names-end c.in_err-end.ensures)

pub read_line-requires : goal.read_line-requires
read_line-requires c =
    omega (arith, takes-fits _ [] _ _ _ c.in_ok-end.ensures (omega arith))

pub returns-in_err-name : goal.returns-in_err-name
returns-in_err-name c =
    let p = err_from_is_err_and c.from_residual-in_err-name.result c.from_residual-in_err-name.ensures.1 in
    rw (p.1, p.2) (names-first c.in_ok-end.ensures c.in_err-name.ensures)

pub read_opened-requires : goal.read_opened-requires
read_opened-requires c =
    omega (arith, names-fit c.in_ok-end.ensures c.in_ok-name.ensures (omega arith))

pub returns-in_err-read_opened : goal.returns-in_err-read_opened
returns-in_err-read_opened c =
    let p = err_from_is_err_and c.from_residual-in_err-read_opened.result c.from_residual-in_err-read_opened.ensures.1 in
    rw (p.1, p.2) (names-last c.in_ok-end.ensures c.in_ok-name.ensures c.in_err-read_opened.ensures)

pub returns : goal.returns
returns c = names-last c.in_ok-end.ensures c.in_ok-name.ensures c.in_ok-read_opened.ensures
