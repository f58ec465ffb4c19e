-- `multi::types::type_length_fault` meets its contract. Assumes nothing.
use native.Mathlib.Omega.{arith}
use Rattle.std.proofs.lemmas.Result.{err_from_is_err_and}
use Rattle.multi.proofs.TypeStages.{length-stop, length-fits, length-bound, length-short, length-differs, length-agrees, length-passed}
use Rattle.multi.proofs.types.type_length_fault.Goals.{else-last-via-then-last+else-announced-whole, else-last-via-else-last}
use Rattle.multi.proofs.types.type_length_fault.Goals as goal

pub returns-in_err-read_opened : goal.returns-in_err-read_opened
returns-in_err-read_opened c =
    let p = err_from_is_err_and c.from_residual.result c.from_residual.ensures.1 in
    rw (p.1, p.2) (length-stop c.in_err-read_opened.ensures _ _)

pub length_at-long-requires : goal.length_at-long-requires
length_at-long-requires c = omega (arith, length-fits c.in_ok-read_opened.ensures (omega arith))

pub returns-then-long-lt-LEAST_TYPE_LENGTH : goal.returns-then-long-lt-LEAST_TYPE_LENGTH
returns-then-long-lt-LEAST_TYPE_LENGTH c =
    length-short c.in_ok-read_opened.ensures _ _ c.length_at-long.ensures c.if-long-lt-LEAST_TYPE_LENGTH.true

pub overflow_add-whole-3 : goal.overflow_add-whole-3
overflow_add-whole-3 c =
    let bound = length-bound c.in_ok-read_opened.ensures c.length_at-long.ensures in
    omega arith

pub returns-then-announced-whole : goal.returns-then-announced-whole
returns-then-announced-whole c =
    length-differs c.in_ok-read_opened.ensures _ _ c.length_at-long.ensures
    c.if-long-lt-LEAST_TYPE_LENGTH.false c.if-last.true c.if-announced-whole.true

pub returns : goal.returns
returns c =
    let passed = c.if-long-lt-LEAST_TYPE_LENGTH.false in
    elim c.else-last.branch [
      | else-last-via-then-last+else-announced-whole w ↦
          length-agrees c.in_ok-read_opened.ensures _ _ c.length_at-long.ensures passed w.if-last.true w.if-announced-whole.false
      | else-last-via-else-last w ↦
          length-passed c.in_ok-read_opened.ensures _ _ c.length_at-long.ensures passed w.if-last.false
    ]
