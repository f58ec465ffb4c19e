-- `multi::head_fault` meets its contract. Assumes nothing.
use mathlib.Core.List.{[]}
use native.Mathlib.Omega.{arith}
use Rattle.std.proofs.lemmas.Result.{err_from_is_err_and}
use Rattle.lines.proofs.Runs.{takes-fits}
use Rattle.multi.proofs.TypeStages.{head_first, head-second, head-inside, head_few, head-many, head-last}
use Rattle.multi.proofs.head_fault.Goals as goal

pub returns-in_err-first : goal.returns-in_err-first
returns-in_err-first c =
    let p = err_from_is_err_and c.from_residual.result c.from_residual.ensures.1 in
    rw (p.1, p.2) (head_first c.in_err-first.ensures)

pub read_opened-requires : goal.read_opened-requires
read_opened-requires c =
    omega (arith, takes-fits _ [] _ _ _ c.in_ok-first.ensures (omega arith))

pub returns-in_err-second : goal.returns-in_err-second
returns-in_err-second c =
    let p = err_from_is_err_and c.from_residual-in_err-second.result c.from_residual-in_err-second.ensures.1 in
    rw (p.1, p.2) (head-second c.in_ok-first.ensures c.in_err-second.ensures)

pub type_count-n-requires : goal.type_count-n-requires
type_count-n-requires c = (head-inside c.in_ok-first.ensures c.in_ok-second.ensures).0

pub returns-then-n-lt1 : goal.returns-then-n-lt1
returns-then-n-lt1 c =
    head_few c.in_ok-first.ensures c.in_ok-second.ensures c.type_count-n.ensures (omega arith)

pub returns-then-n-gt64 : goal.returns-then-n-gt64
returns-then-n-gt64 c =
    head-many c.in_ok-first.ensures c.in_ok-second.ensures c.type_count-n.ensures (omega arith) (omega arith)

pub read_field-requires : goal.read_field-requires
read_field-requires c =
    omega (arith, (head-inside c.in_ok-first.ensures c.in_ok-second.ensures).1)

pub returns-in_err-read_field : goal.returns-in_err-read_field
returns-in_err-read_field c =
    let p = err_from_is_err_and c.from_residual-in_err-read_field.result c.from_residual-in_err-read_field.ensures.1 in
    rw (p.1, p.2) (head-last c.in_ok-first.ensures c.in_ok-second.ensures c.type_count-n.ensures (omega arith) (omega arith) c.in_err-read_field.ensures)

pub returns : goal.returns
returns c =
    head-last c.in_ok-first.ensures c.in_ok-second.ensures c.type_count-n.ensures (omega arith) (omega arith) c.in_ok-read_field.ensures
