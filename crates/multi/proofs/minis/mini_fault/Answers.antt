-- `multi::minis::mini_fault` meets its contract. Assumes nothing.
use native.Mathlib.Omega.{arith}
use Rattle.std.proofs.lemmas.Result.{err_from_is_err_and}
use Rattle.multi.proofs.MiniStages.{mini-short, mini-stop, mini-declared, mini-undeclared}
use Rattle.multi.proofs.minis.mini_fault.Goals as goal

pub returns-then-r-at-lt-MINI_LENGTH : goal.returns-then-r-at-lt-MINI_LENGTH
returns-then-r-at-lt-MINI_LENGTH c =
    mini-short c.args.at c.args.r.now c.requires.r_value _ (omega arith)

pub returns-then-is_kept : goal.returns-then-is_kept
returns-then-is_kept c =
    mini-declared c.args.at c.args.r.now c.requires.r_value _ c.is_kept.ensures _ c.requires.text_ids
    (omega arith) c.if-is_kept.true c.data_fault.ensures

pub returns-in_err-read_field : goal.returns-in_err-read_field
returns-in_err-read_field c =
    let p = err_from_is_err_and c.from_residual.result c.from_residual.ensures.1 in
    rw (p.1, p.2) (mini-stop c.args.at c.args.r.now c.requires.r_value _ c.in_err-read_field.ensures)

pub returns : goal.returns
returns c =
    mini-undeclared c.args.at c.args.r.now c.requires.r_value _ c.is_kept.ensures c.if-is_kept.false c.in_ok-read_field.ensures
