-- `chunk::closing::closing_fault` meets its contract: mark, integrity data, mark, each from where the one before ends.
-- Assumes nothing.
use native.Mathlib.Omega.{arith}
use Rattle.std.proofs.lemmas.Result.{err_from_is_err_and}
use Rattle.chunk.proofs.Closings.{mark-stop, mark-room, integrity-stop, integrity-room, closing-last}
use Rattle.chunk.proofs.closing.closing_fault.Goals as goal

pub returns-in_err-first : goal.returns-in_err-first
returns-in_err-first c =
    let p = err_from_is_err_and c.from_residual.result c.from_residual.ensures.1 in
    rw (p.1, p.2) (mark-stop c.in_err-first.ensures)

pub integrity_fault-requires : goal.integrity_fault-requires
integrity_fault-requires c = mark-room c.in_ok-first.ensures (omega arith)

pub returns-in_err-integrity_fault : goal.returns-in_err-integrity_fault
returns-in_err-integrity_fault c =
    let p = err_from_is_err_and c.from_residual-in_err-integrity_fault.result c.from_residual-in_err-integrity_fault.ensures.1 in
    rw (p.1, p.2) (integrity-stop c.in_ok-first.ensures _ c.in_err-integrity_fault.ensures)

pub overflow_add-first : goal.overflow_add-first
overflow_add-first c =
    omega (arith, integrity-room c.in_ok-first.ensures c.in_ok-integrity_fault.ensures (omega arith))

pub read_fixed-requires-2 : goal.read_fixed-requires-2
read_fixed-requires-2 c = integrity-room c.in_ok-first.ensures c.in_ok-integrity_fault.ensures (omega arith)

pub returns-in_err-read_fixed : goal.returns-in_err-read_fixed
returns-in_err-read_fixed c =
    let p = err_from_is_err_and c.from_residual-in_err-read_fixed.result c.from_residual-in_err-read_fixed.ensures.1 in
    rw (p.1, p.2) (closing-last c.in_ok-first.ensures c.in_ok-integrity_fault.ensures c.in_err-read_fixed.ensures)

pub returns : goal.returns
returns c = closing-last c.in_ok-first.ensures c.in_ok-integrity_fault.ensures c.in_ok-read_fixed.ensures
