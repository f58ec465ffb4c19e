-- `sums::words::word_sum` meets its contract: block by block of both halves, then what is left. Assumes nothing.
use Rattle.std.proofs.Common.{◌≡◌, ℕ, ◌+◌, ◌-◌, ◌*◌, ◌/◌, ◌%◌, ◌≤◌, min, length, drop, refl, ap, ◌∙◌, arith, length-drop}
use Rattle.metafile.specs.Bytes.{total, sum}
use Rattle.sums.proofs.Laws.{sum_added, halves-next, halves-whole}
use Rattle.sums.proofs.words.word_sum.Goals as goal

pub loop-i-init : goal.loop-i-init
unfolding total
loop-i-init c =
    let none : min (length c.args.s.now / 16 * 8) (512 * 0) ≡ 0 = omega arith in
    rw none refl

pub loop-i-preserved : goal.loop-i-preserved
loop-i-preserved c =
    let s = c.args.s.now in
    let half : ℕ = length s / 16 * 8 in
    let at : ℕ = 512 * c.loop-i.i in
    let end : ℕ = c.min-end.result in
    let before : min half at ≡ at = omega (arith, c.div_ceil-i-end.ensures) in
    let after : min half (512 * (c.loop-i.i + 1)) ≡ end = omega arith in
    rw after
    (sum_added _ _ c.loop-i.acc c.block_sum-acc.result _ (rw before at c.loop-i.invariant) c.block_sum-acc.ensures refl
    ∙ ap (λ (x : ℕ). x % 256) (halves-next s half at end (end - at) (half + end - (half + at)) (omega arith) refl (omega arith)))

pub returns : goal.returns
unfolding sum
returns c =
    let s = c.args.s.now in
    let half : ℕ = length s / 16 * 8 in
    let words : ℕ = length s / 8 * 8 in
    let all : min half (512 * c.loop-i.i) ≡ half = omega arith in
    let rest : length (drop words s) ≤ length s - words = omega (arith, length-drop words s) in
    sum_added _ _ _ c.byte_sum.result _ (sum_added _ _ c.loop-i.acc c.single_sum.result _ (rw all at c.loop-i.invariant) c.single_sum.ensures refl)
    c.byte_sum.ensures refl
    ∙ ap (λ (x : ℕ). x % 256) (halves-whole s half words (length s - words) (omega arith) rest)
