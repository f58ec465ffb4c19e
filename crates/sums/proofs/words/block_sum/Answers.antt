-- `sums::words::block_sum` meets its contract: the laws of the words, a word of each run a turn. That `even` fits is read off
-- the lanes. Assumes nothing.
use Rattle.std.proofs.Common.{◌≡◌, ℕ, ◌+◌, ◌*◌, refl, arith, take_all}
use Rattle.metafile.specs.Bytes.{total}
use Rattle.sums.proofs.Laws.{total-part}
use Rattle.sums.proofs.Lanes.{words-none, words-next, words-most, words_same, words-fit}
use Rattle.sums.proofs.words.block_sum.Goals as goal

both-parts : (a b c d x y : ℕ) → x ≡ a + c → y ≡ b + d → a + b + c + d ≡ x + y
both-parts a b c d x y p q = omega arith

pub loop-i-init : goal.loop-i-init
unfolding total
loop-i-init c = words-none

pub overflow_add-even : goal.overflow_add-even
overflow_add-even c =
    words-fit (words-next c.loop-i.invariant c.word-w.ensures.1 c.evens.ensures refl) (omega arith)

pub overflow_add-even-in-loop-i : goal.overflow_add-even-in-loop-i
overflow_add-even-in-loop-i c =
    let x = words-next c.loop-i.invariant c.word-w.ensures.1 c.evens.ensures refl in
    words-fit (words-next x c.word-v.ensures.1 c.evens-in-loop-i.ensures refl) (omega arith)

pub loop-i-preserved : goal.loop-i-preserved
loop-i-preserved c =
    let x = words-next c.loop-i.invariant c.word-w.ensures.1 c.evens.ensures refl in
    let y = words-next x c.word-v.ensures.1 c.evens-in-loop-i.ensures refl in
    let at : ℕ = 8 * c.loop-i.i in
    let end : 8 * (c.loop-i.i + 1) ≡ at + 8 = omega arith in
    let s = total-part c.args.s.now at (at + 8) (omega arith) in
    let q = total-part c.args.q.now at (at + 8) (omega arith) in
    rw end (words_same y (omega arith) (both-parts _ _ _ _ _ _ s q))

pub folded-requires : goal.folded-requires
folded-requires c = (_, words-most c.loop-i.invariant 128 (omega arith))

pub returns : goal.returns
returns c =
    let at : ℕ = 8 * c.loop-i.i in
    rw (take_all at c.args.s.now (omega arith), take_all at c.args.q.now (omega arith)) at
    (c.folded.ensures _ (words-most c.loop-i.invariant 128 (omega arith)))
