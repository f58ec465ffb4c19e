-- `lines::judge::standard_fault` meets its contract. Assumes nothing.
use mathlib.Core.Path.{◌∙◌}
use mathlib.Core.List.{[], ◌∷◌}
use native.Mathlib.Omega.{arith}
use lib.ListN.{take}
use Rattle.metafile.specs.Lines.{NUL, UTC, ALT, time_standard}
use Rattle.lines.specs.Words.{word_no}
use Rattle.lines.proofs.Judged.{word-one, word_two, word-out, long, stamp-short, stamp-other, stamp-serial, stamp-free}
use Rattle.std.proofs.lemmas.Result.{err_from_is_err_and}
use Rattle.lines.proofs.judge.standard_fault.Goals as goal

pub returns-in_err-v : goal.returns-in_err-v
unfolding time_standard
returns-in_err-v c =
    let p = err_from_is_err_and c.from_residual.result c.from_residual.ensures.1 in
    rw (p.1, p.2, c.in_err-v.ensures.0) (stamp-short (UTC ∷ NUL ∷ []) (ALT ∷ []) c.args.s.now c.in_err-v.ensures.1)

pub is_word-requires : goal.is_word-requires
is_word-requires c = omega (arith, long c.args.s.now c.in_ok-v.v.now 3 c.in_ok-v.ensures.0 c.in_ok-v.ensures.1)

pub returns-then-is_word : goal.returns-then-is_word
unfolding time_standard word_no
returns-then-is_word c =
    let v = take 3 c.args.s.now in
    c.serial_fault.ensures
    ∙ stamp-serial (UTC ∷ NUL ∷ []) (ALT ∷ []) c.args.s.now c.in_ok-v.ensures.0
    (word-one ALT v _ (c.is_word.ensures ∙ word-out c.args.s.now c.in_ok-v.v.now 7 c.in_ok-v.ensures.1) ∙ c.if-is_word.true)

pub returns-then-is_word-2 : goal.returns-then-is_word-2
unfolding time_standard word_no
returns-then-is_word-2 c =
    let v = take 3 c.args.s.now in
    c.free_fault.ensures
    ∙ stamp-free (UTC ∷ NUL ∷ []) (ALT ∷ []) c.args.s.now c.in_ok-v.ensures.0
    (word_two UTC NUL v _ _ (c.is_word-2.ensures ∙ word-out c.args.s.now c.in_ok-v.v.now 6 c.in_ok-v.ensures.1) (c.is_word-3.ensures ∙ word-out c.args.s.now c.in_ok-v.v.now 1 c.in_ok-v.ensures.1) ∙ c.if-is_word-2.true)
    (word-one ALT v _ (c.is_word.ensures ∙ word-out c.args.s.now c.in_ok-v.v.now 7 c.in_ok-v.ensures.1) ∙ c.if-is_word.false)

pub returns : goal.returns
unfolding time_standard word_no
returns c =
    let v = take 3 c.args.s.now in
    stamp-other (UTC ∷ NUL ∷ []) (ALT ∷ []) c.args.s.now c.in_ok-v.ensures.0
    (word_two UTC NUL v _ _ (c.is_word-2.ensures ∙ word-out c.args.s.now c.in_ok-v.v.now 6 c.in_ok-v.ensures.1) (c.is_word-3.ensures ∙ word-out c.args.s.now c.in_ok-v.v.now 1 c.in_ok-v.ensures.1) ∙ c.if-is_word-2.false)
    (word-one ALT v _ (c.is_word.ensures ∙ word-out c.args.s.now c.in_ok-v.v.now 7 c.in_ok-v.ensures.1) ∙ c.if-is_word.false)
