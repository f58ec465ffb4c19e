-- `contents::contents` meets its contract. Assumes nothing.
use Rattle.std.proofs.Common.{refl}
use native.Mathlib.Omega.{arith}
use Rattle.std.proofs.lemmas.Result.{err_from_is_err_and}
use Rattle.contents.proofs.Answers.{handed, handed-none, part-inside}
use Rattle.contents.proofs.contents.Goals as goal

pub returns-in_err-part : goal.returns-in_err-part
returns-in_err-part c =
    let p = err_from_is_err_and c.from_residual.result c.from_residual.ensures.1 in rw (p.1, p.2) (handed-none _ _ _ c.in_err-part.ensures refl refl)

pub overflow_add-result : goal.overflow_add-result
overflow_add-result c = omega (arith, part-inside c.args.file.now c.args.row _ c.in_ok-part.ensures)

pub slice_bounds-result-end : goal.slice_bounds-result-end
slice_bounds-result-end c = omega (arith, part-inside c.args.file.now c.args.row _ c.in_ok-part.ensures)

pub returns : goal.returns
returns c = handed c.args.file.now c.args.row _ c.in_ok-part.ensures
