-- `contents::place_of` meets its contract. Assumes nothing.
use native.Mathlib.Omega.{arith}
use Rattle.std.proofs.lemmas.Result.{err_from_is_err_and}
use Rattle.walk.proofs.Index.{indexed-none}
use Rattle.walk.proofs.Named.{named-goes}
use Rattle.contents.proofs.Answers.{part-refused, part-named}
use Rattle.contents.proofs.place_of.Goals as goal

pub row_of-requires : goal.row_of-requires
row_of-requires c = indexed-none _ 0

pub returns-in_err-own : goal.returns-in_err-own
returns-in_err-own c =
    let p = err_from_is_err_and c.from_residual.result c.from_residual.ensures.1 in rw (p.1, p.2) (part-refused _ _ _ c.in_err-own.ensures.named)

pub overflow_add-result : goal.overflow_add-result
overflow_add-result c =
    let w = named-goes c.args.file.now c.args.row c.in_ok-own.ensures.named c.in_ok-own.ensures.goes in
    omega (arith, w.lies.contents-inside, w.contents-is)

pub returns : goal.returns
returns c = part-named _ _ _ (named-goes c.args.file.now c.args.row c.in_ok-own.ensures.named c.in_ok-own.ensures.goes)
