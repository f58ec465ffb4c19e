-- `lines::judge::count_fault` meets its contract. Assumes nothing.
use mathlib.Core.Path.{◌∙◌}
use Rattle.metafile.specs.Lines.{count_fault}
use Rattle.lines.proofs.Judged.{judged-short, judged}
use Rattle.std.proofs.lemmas.Result.{err_from_is_err_and}
use Rattle.lines.proofs.judge.count_fault.Goals as goal

pub returns-in_err-v : goal.returns-in_err-v
returns-in_err-v c =
    let p = err_from_is_err_and c.from_residual.result c.from_residual.ensures.1 in
    rw (p.1, p.2, c.in_err-v.ensures.0) (judged-short c.args.n (count_fault c.args.most) c.args.s.now c.in_err-v.ensures.1)

pub returns : goal.returns
unfolding count_fault
returns c =
    let v = c.in_ok-v in
    judged c.args.n (count_fault c.args.most) c.args.s.now _ v.v.now v.ensures.0 v.ensures.1 (c.verdict.ensures ∙ rw (c.is_count.ensures, c.count_value.ensures))
