-- `lines::judge::word_fault` meets its contract. Assumes nothing.
use mathlib.Core.Path.{◌∙◌}
use mathlib.Core.List.{[], ◌∷◌}
use native.Mathlib.Omega.{arith}
use Rattle.metafile.specs.Lines.{word_fault}
use Rattle.lines.proofs.Judged.{judged-short, judged, either-own, long, word-whole}
use Rattle.lines.specs.Words.{word_no}
use Rattle.std.proofs.lemmas.Result.{err_from_is_err_and}
use Rattle.lines.proofs.judge.word_fault.Goals as goal

pub returns-in_err-v : goal.returns-in_err-v
returns-in_err-v c =
    let p = err_from_is_err_and c.from_residual.result c.from_residual.ensures.1 in
    rw (p.1, p.2, c.in_err-v.ensures.0) (judged-short 3 (word_fault (word_no c.args.a ∷ word_no c.args.b ∷ [])) c.args.s.now c.in_err-v.ensures.1)

pub returns : goal.returns
returns c =
    let v = c.in_ok-v in
    judged 3 (word_fault (word_no c.args.a ∷ word_no c.args.b ∷ [])) c.args.s.now _ v.v.now v.ensures.0 v.ensures.1
    (c.verdict.ensures ∙ either-own (word_no c.args.a) (word_no c.args.b) v.v.now _ _ (c.is_word.ensures ∙ word-whole v.v.now _ (long c.args.s.now v.v.now 3 v.ensures.0 v.ensures.1)) (c.is_word-2.ensures ∙ word-whole v.v.now _ (long c.args.s.now v.v.now 3 v.ensures.0 v.ensures.1)))

pub is_word-requires : goal.is_word-requires
is_word-requires c = omega (arith, long c.args.s.now c.in_ok-v.v.now 3 c.in_ok-v.ensures.0 c.in_ok-v.ensures.1)
