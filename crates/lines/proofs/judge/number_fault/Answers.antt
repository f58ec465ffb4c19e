-- `lines::judge::number_fault` meets its contract. Assumes nothing.
use Prim.Native.Nat.{◌-◌, ◌^◌}
use mathlib.Core.Path.{◌∙◌}
use Rattle.metafile.specs.Lines.{count_fault}
use Rattle.lines.proofs.Judged.{judged-short, judged, number-judged, long}
use Rattle.std.proofs.lemmas.Result.{err_from_is_err_and}
use Rattle.lines.proofs.judge.number_fault.Goals as goal

pub returns-in_err-v : goal.returns-in_err-v
returns-in_err-v c =
    let p = err_from_is_err_and c.from_residual.result c.from_residual.ensures.1 in
    rw (p.1, p.2, c.in_err-v.ensures.0) (judged-short c.args.n (count_fault (10 ^ c.args.n - 1)) c.args.s.now c.in_err-v.ensures.1)

pub returns : goal.returns
returns c =
    let v = c.in_ok-v in
    judged c.args.n (count_fault (10 ^ c.args.n - 1)) c.args.s.now _ v.v.now v.ensures.0 v.ensures.1
    (c.verdict.ensures ∙ number-judged c.args.n v.v.now (long c.args.s.now v.v.now c.args.n v.ensures.0 v.ensures.1) _ c.is_count.ensures)
