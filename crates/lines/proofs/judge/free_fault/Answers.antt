-- `lines::judge::free_fault` meets its contract. Assumes nothing.
use mathlib.Core.Path.{refl}
use Rattle.metafile.specs.Lines.{free_fault}
use Rattle.lines.proofs.Judged.{judged-short, judged}
use Rattle.std.proofs.lemmas.Result.{err_from_is_err_and}
use Rattle.lines.proofs.judge.free_fault.Goals as goal

pub returns-in_err-field : goal.returns-in_err-field
returns-in_err-field c =
    let p = err_from_is_err_and c.from_residual.result c.from_residual.ensures.1 in
    rw (p.1, p.2, c.in_err-field.ensures.0) (judged-short c.args.n free_fault c.args.s.now c.in_err-field.ensures.1)

pub returns : goal.returns
unfolding free_fault
returns c =
    judged c.args.n free_fault c.args.s.now 0 _ c.in_ok-field.ensures.0 c.in_ok-field.ensures.1 refl
