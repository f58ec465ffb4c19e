-- `lines::judge::event_fault` meets its contract. Assumes nothing.
use mathlib.Core.Path.{◌∙◌}
use mathlib.Core.List.{[], ◌∷◌}
use native.Mathlib.Omega.{arith}
use lib.ListN.{take}
use Rattle.metafile.specs.Lines.{NUL, SLV, MAS, event_synch}
use Rattle.lines.specs.Words.{word_no}
use Rattle.lines.proofs.Judged.{word-one, word_two, word-out, long, stamp-short, stamp-other, stamp-serial, stamp-free}
use Rattle.std.proofs.lemmas.Result.{err_from_is_err_and}
use Rattle.lines.proofs.judge.event_fault.Goals as goal

pub returns-in_err-v : goal.returns-in_err-v
unfolding event_synch
returns-in_err-v c =
    let p = err_from_is_err_and c.from_residual.result c.from_residual.ensures.1 in
    rw (p.1, p.2, c.in_err-v.ensures.0) (stamp-short (NUL ∷ []) (SLV ∷ MAS ∷ []) c.args.s.now c.in_err-v.ensures.1)

pub is_word-requires : goal.is_word-requires
is_word-requires c = omega (arith, long c.args.s.now c.in_ok-v.v.now 3 c.in_ok-v.ensures.0 c.in_ok-v.ensures.1)

pub returns-then-is_word : goal.returns-then-is_word
unfolding event_synch word_no
returns-then-is_word c =
    let v = take 3 c.args.s.now in
    c.serial_fault.ensures
    ∙ stamp-serial (NUL ∷ []) (SLV ∷ MAS ∷ []) c.args.s.now c.in_ok-v.ensures.0
    (word_two SLV MAS v _ _ (c.is_word.ensures ∙ word-out c.args.s.now c.in_ok-v.v.now 8 c.in_ok-v.ensures.1) (c.is_word-2.ensures ∙ word-out c.args.s.now c.in_ok-v.v.now 9 c.in_ok-v.ensures.1) ∙ c.if-is_word.true)

pub returns-then-is_word-2 : goal.returns-then-is_word-2
unfolding event_synch word_no
returns-then-is_word-2 c =
    let v = take 3 c.args.s.now in
    c.free_fault.ensures
    ∙ stamp-free (NUL ∷ []) (SLV ∷ MAS ∷ []) c.args.s.now c.in_ok-v.ensures.0
    (word-one NUL v _ (c.is_word-3.ensures ∙ word-out c.args.s.now c.in_ok-v.v.now 1 c.in_ok-v.ensures.1) ∙ c.if-is_word-2.true)
    (word_two SLV MAS v _ _ (c.is_word.ensures ∙ word-out c.args.s.now c.in_ok-v.v.now 8 c.in_ok-v.ensures.1) (c.is_word-2.ensures ∙ word-out c.args.s.now c.in_ok-v.v.now 9 c.in_ok-v.ensures.1) ∙ c.if-is_word.false)

pub returns : goal.returns
unfolding event_synch word_no
returns c =
    let v = take 3 c.args.s.now in
    stamp-other (NUL ∷ []) (SLV ∷ MAS ∷ []) c.args.s.now c.in_ok-v.ensures.0
    (word-one NUL v _ (c.is_word-3.ensures ∙ word-out c.args.s.now c.in_ok-v.v.now 1 c.in_ok-v.ensures.1) ∙ c.if-is_word-2.false)
    (word_two SLV MAS v _ _ (c.is_word.ensures ∙ word-out c.args.s.now c.in_ok-v.v.now 8 c.in_ok-v.ensures.1) (c.is_word-2.ensures ∙ word-out c.args.s.now c.in_ok-v.v.now 9 c.in_ok-v.ensures.1) ∙ c.if-is_word.false)
