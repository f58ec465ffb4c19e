-- `relations_check::check_text` meets its contract. Assumes nothing.
use Prim.Native.Nat.{◌≤◌}
use mathlib.Core.Path.{ap, ◌∙◌}
use native.Mathlib.Omega.{arith}
use borrow.Author.Tests.{not-true, not-false}
use lib.ListN.{length}
use Rattle.relations_check.proofs.Judgings.{judging-none, judging-tail, judged-tail, text-20, text-18, text-checked}
use mathlib.Core.Bool.{not}
use Rattle.relations_check.proofs.check_text.Goals as goal
use Rattle.relations_check.proofs.check_text.Goals.{Else-verdicts-n}

pub returns-then-not-is_headed : goal.returns-then-not-is_headed
returns-then-not-is_headed c = text-20 _ _ _ _ c.is_headed.ensures (not-true _ (ap not c.if-not-is_headed.true))

pub returns-then-verdicts-n : goal.returns-then-verdicts-n
returns-then-verdicts-n c =
    let n = c in
    let h = n in
    text-18 _ _ _ _ c.is_headed.ensures (not-false _ (ap not h.if-not-is_headed.false)) _ n.count-n.ensures c.if-verdicts-n.true

room : (c : Else-verdicts-n) → c.count-n.result ≤ length c.args.verdicts.now
room c = omega (arith, c.if-verdicts-n.false)

pub put_forms-requires : goal.put_forms-requires
put_forms-requires c =
    let e = c in
    omega (arith, room (goal.at.put_forms-requires c).Else-verdicts-n, e.count-n.ensures)

pub judge_rows-requires : goal.judge_rows-requires
judge_rows-requires c =
    let p = c in
    let k = p in record { ended = k.requires.ended; file_len_bound = k.requires.file_len_bound; d_len = k.requires.d_len; judging = judging-none _ _ _ _ p.put_forms.ensures }

pub returns : goal.returns
returns c =
    let j = c in
    let p = j in
    let e = p in
    let h = e in
    text-checked _ _ _ _ c.is_headed.ensures (not-false _ (ap not h.if-not-is_headed.false)) _ e.count-n.ensures (room (goal.at.returns c).Else-verdicts-n) _ (j.judge_rows.ensures ∙ judged-tail _ _ _ _ (judging-tail _ _ _ _ p.put_forms.ensures))
