-- `relations_check::judge_rows` meets its contract. Assumes nothing.
use mathlib.Core.Path.{refl, sym, ◌∙◌}
use native.Mathlib.Omega.{arith}
use Rattle.chunk_laws.proofs.File.{file-few}
use Rattle.relations_check.proofs.Judgings.{judging-tail, judging-next, judging-length, judging-all}
use Rattle.relations_check.proofs.judge_rows.Goals as goal

pub loop-k-init : goal.loop-k-init
loop-k-init c =
    let k = c in
    (omega arith, k.requires.ended.begun, k.requires.d_len, refl, k.requires.judging, refl)

pub clear-requires : goal.clear-requires
clear-requires c = c.loop-k.invariant.2

pub fill-window-requires : goal.fill-window-requires
fill-window-requires c =
    let e = c in
    let t = e in
    let k = t in record { rows_value = k.requires.ended.count; behind = t.loop-k.invariant.1 (omega (arith, t.loop-k-test.true)); from_lt_rows = t.loop-k-test.true; file_len_bound = k.requires.file_len_bound; empty = e.clear.ensures }

pub judge-requires : goal.judge-requires
judge-requires c =
    let f = c in
    let t = f in
    let w = f.fill-window.ensures in rw w.from_is t.loop-k.invariant.4

pub overflow_add-k : goal.overflow_add-k
overflow_add-k c =
    let k = c in
    omega (arith, c.fill-window.ensures.window.rows, file-few k.args.file.now, k.requires.file_len_bound)

pub loop-k-smaller : goal.loop-k-smaller
loop-k-smaller c = let w = c.fill-window.ensures in omega (arith, w.some, w.from_is, c.loop-k-test.true)

pub loop-k-preserved : goal.loop-k-preserved
loop-k-preserved c =
    let l = c in
    let k = l in
    let w = c.fill-window.ensures in
    let e = c.judge.ensures in (
      omega (arith, w.window.rows, k.requires.ended.count),
      (λ some. w.behind),
      w.window.holds.long,
      judging-length _ _ _ _ _ _ l.loop-k.invariant.4 e ∙ l.loop-k.invariant.3,
      judging-next _ _ _ _ _ e,
      judging-tail _ _ _ _ e ∙ l.loop-k.invariant.5,
    )

pub shape_of-d : goal.shape_of-d
shape_of-d c = let l = c in l.loop-k.invariant.2 ∙ sym l.requires.d_len

pub shape_of-verdicts : goal.shape_of-verdicts
shape_of-verdicts c = c.loop-k.invariant.3

pub returns : goal.returns
returns c =
    let l = c in
    let k = l in
    judging-all _ _ _ _ _ (omega (arith, l.loop-k.invariant.0, c.loop-k-test.false, k.requires.ended.count)) l.loop-k.invariant.4 l.loop-k.invariant.5
