-- `blocks::judge::block_fault` meets its contract. Assumes nothing.
use Rattle.std.proofs.Common.{◌≡◌, ◌+◌, ◌-◌, ◌≤◌, true, length, take, sym, ap, ◌∙◌, arith}
use borrow.Author.Tests.{not-true, not-false}
use Rattle.metafile.specs.Bytes.{part, all, is_zero}
use Rattle.blocks.specs.Blocks.{big_value, block_sum, use_of, use_right}
use Rattle.blocks.proofs.Places.{all-zeros, spare-part}
use Rattle.blocks.proofs.Faults.{use-most, short-fault, sum-fault, number-fault, use-fault, spare-fault, no-fault}
use mathlib.Core.Bool.{not}
use Rattle.blocks.proofs.judge.block_fault.Goals as goal
use Rattle.blocks.proofs.judge.block_fault.Goals.{After-all_zero, After-big_value-used, Else-b-lt-BLOCK, Else-big_value-i, Else-from-big_value, Else-not-use_right}

pub returns-then-b-lt-BLOCK : goal.returns-then-b-lt-BLOCK
returns-then-b-lt-BLOCK c = short-fault _ _ _ c.if-b-lt-BLOCK.true

whole : (c : Else-b-lt-BLOCK) → 512 ≤ length c.args.b.now
whole c = c.if-b-lt-BLOCK.false

pub returns-then-from-big_value : goal.returns-then-from-big_value
returns-then-from-big_value c =
    let s = c in
    sum-fault _ _ _ (whole (goal.at.returns-then-from-big_value c).Else-b-lt-BLOCK) (s.from.ensures ∙ s.block_sum.ensures) c.big_value.ensures c.if-from-big_value.true

summed : (c : Else-from-big_value) → block_sum (take 510 c.args.b.now) ≡ big_value (part 510 2 c.args.b.now)
summed c = sym (c.from.ensures ∙ c.block_sum.ensures) ∙ c.if-from-big_value.false ∙ c.big_value.ensures

pub returns-then-big_value-i : goal.returns-then-big_value-i
returns-then-big_value-i c =
    let v = c in
    let e = v in
    number-fault _ _ _ (whole (goal.at.returns-then-big_value-i c).Else-b-lt-BLOCK) (summed (goal.at.returns-then-big_value-i c).Else-from-big_value) (λ q. c.if-big_value-i.true (v.big_value-2.ensures ∙ q))

numbered : (c : Else-big_value-i) → big_value (take 4 c.args.b.now) ≡ c.args.i
numbered c = sym c.big_value-2.ensures ∙ c.if-big_value-i.false

used-is : (c : After-big_value-used) → c.big_value-used.result ≡ use_of c.args.b.now
unfolding use_of
used-is c = c.big_value-used.ensures

pub returns-then-not-use_right : goal.returns-then-not-use_right
returns-then-not-use_right c =
    let u = c in
    let v = u in
    let e = v in
    let k = e in
    use-fault _ _ _ (whole (goal.at.returns-then-not-use_right c).Else-b-lt-BLOCK) (summed (goal.at.returns-then-not-use_right c).Else-from-big_value) (numbered (goal.at.returns-then-not-use_right c).Else-big_value-i)
    (sym (ap (λ n. use_right k.args.last k.args.i n) (used-is (goal.at.returns-then-not-use_right c).After-big_value-used)) ∙ sym u.use_right.ensures ∙ not-true _ (ap not c.if-not-use_right.true))

used : (c : Else-not-use_right) → use_right c.args.last c.args.i (use_of c.args.b.now) ≡ true
unfolding use_of
used c =
    let used-is : c.big_value-used.result ≡ use_of c.args.b.now = c.big_value-used.ensures in
    let u = c in
    let k = c in
    sym (ap (λ n. use_right k.args.last k.args.i n) used-is) ∙ sym u.use_right.ensures ∙ not-false _ (ap not c.if-not-use_right.false)

few : (c : Else-not-use_right) → c.big_value-used.result ≤ 504
unfolding use_of
few c =
    let used-is : c.big_value-used.result ≡ use_of c.args.b.now = c.big_value-used.ensures in
    omega (arith, used-is, use-most _ _ _ (used c))

spares : (c : After-all_zero) → c.all_zero.result ≡ all is_zero (part (6 + use_of c.args.b.now) (504 - use_of c.args.b.now) c.args.b.now)
unfolding use_of
spares c =
    let used-is : c.big_value-used.result ≡ use_of c.args.b.now = c.big_value-used.ensures in
    let e = c in
    c.all_zero.ensures ∙ all-zeros _ ∙ ap (all is_zero) (spare-part _ _ _ used-is)

pub returns-then-not-all_zero : goal.returns-then-not-all_zero
returns-then-not-all_zero c =
    let e = c in
    spare-fault _ _ _ (whole (goal.at.returns-then-not-all_zero c).Else-b-lt-BLOCK) (summed (goal.at.returns-then-not-all_zero c).Else-from-big_value) (numbered (goal.at.returns-then-not-all_zero c).Else-big_value-i) (used (goal.at.returns-then-not-all_zero c).Else-not-use_right) (sym (spares (goal.at.returns-then-not-all_zero c).After-all_zero) ∙ not-true _ (ap not c.if-not-all_zero.true))

pub returns : goal.returns
returns c =
    let e = c in
    no-fault _ _ _ (whole (goal.at.returns c).Else-b-lt-BLOCK) (summed (goal.at.returns c).Else-from-big_value) (numbered (goal.at.returns c).Else-big_value-i) (used (goal.at.returns c).Else-not-use_right) (sym (spares (goal.at.returns c).After-all_zero) ∙ not-false _ (ap not c.if-not-all_zero.false))

pub overflow_add-used : goal.overflow_add-used
overflow_add-used c = omega (arith, few c)

pub slice_bounds-all_zero-count : goal.slice_bounds-all_zero-count
slice_bounds-all_zero-count c = omega (arith, few c)

pub slice_bounds-all_zero-start : goal.slice_bounds-all_zero-start
slice_bounds-all_zero-start c = omega (arith, few c)
