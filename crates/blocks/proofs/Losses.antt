-- What the blocks tell of a copy that lost some of them.
--     lost-seen      of several blocks none comes back as zeros unseen
--     lost-zeros lost-place   the number where one block of a packed file is zeros, and where another of its blocks stands in its place
--     lost-alone     one block of zeros alone is the packed file of no bytes
--     lost-end       a packed file without its last blocks is a packed file, of the bytes before them
-- Assumes nothing.
use Rattle.std.proofs.Common.{◌≡◌, ℕ, zero, suc, ◌+◌, ◌*◌, ◌^◌, ◌<◌, ◌≤◌, Bool, false, cond, eqb, List, [], ◌++◌, length, take, replicate, sym, refl, ap, ◌∙◌, le_of_eq, mul-le-mul_left, arith, length-take-le, take_all, ne_eqb, eqb-true}
use lib.ListN.{length-replicate}
use lib.Seq.{take-nil, take-append-le}
use borrow.Author.Tests.{eqb-false}
use Rattle.metafile.specs.Bytes.{part, total, is_zero}
use Rattle.metafile.specs.Below.{join_below}
use Rattle.laws.proofs.First.{test, cases, is_zero-is, is_zero-not}
use Rattle.laws.proofs.Below.{join-same, fault-none, fault-first}
use Rattle.blocks.specs.Blocks.{big_endian, big_value_from, big_value, block_sum, before_sum, block, block_count, data_at, block_for, packed, blocks_of, block_of, use_of, use_right, block_fault, fault_of, unpack_fault}
use Rattle.blocks.proofs.Pieces.{pieces-long, part-taken}
use Rattle.blocks.proofs.Faults.{number-fault, use-fault}
use Rattle.blocks.proofs.Shape.{block-long, sum-right, number-right, data-few, for-long}
use Rattle.blocks.proofs.Packed.{blocks-same, block-is, numbers, no-fault-at}
use Rattle.blocks.proofs.Places.{block_inside, some-fault}
use Rattle.blocks.proofs.Taken.{right-at, use-whole}

-- ---- as zeros

zero_number : big_value (take 4 (replicate 512 0)) ≡ 0
unfolding big_value big_value_from
zero_number = refl

zero-use : use_of (replicate 512 0) ≡ 0
unfolding use_of big_value big_value_from
zero-use = refl

zero-sum : block_sum (take 510 (replicate 512 0)) ≡ big_value (part 510 2 (replicate 512 0))
unfolding block_sum total big_value big_value_from
zero-sum = refl

zero-long : 512 ≤ length (replicate {A = ℕ} 512 0)
zero-long = omega (arith, length-replicate {A = ℕ} 512 0)

no-use : (k : ℕ) → use_right false k (use_of (replicate 512 0)) ≡ false
unfolding use_right
no-use k = rw zero-use

zero-first : (k : ℕ) → k ≡ 0 → 29 ≡ block_fault false k (replicate 512 0)
zero-first k z = use-fault false k (replicate 512 0) zero-long zero-sum (zero_number ∙ sym z) (no-use k)

zero-later : (last : Bool) (k : ℕ) → (k ≡ 0 → ⊥) → 28 ≡ block_fault last k (replicate 512 0)
zero-later last k n = number-fault last k (replicate 512 0) zero-long zero-sum (λ q. n (sym q ∙ zero_number))

pub lost-seen : (x : List ℕ) (k : ℕ) → 1 < blocks_of x → k < blocks_of x → block_of x k ≡ replicate 512 0 → unpack_fault x ≡ 0 → ⊥
lost-seen x k several h lost e =
    let number : 0 ≡ k = sym zero_number ∙ ap (λ (b : List ℕ). big_value (take 4 b)) (sym lost) ∙ (right-at x e k h).numbered in
    let used : ◌≡◌ {A = ℕ} 0 504 = sym zero-use ∙ ap use_of (sym lost) ∙ use-whole x e k (omega arith) in
    omega arith

-- ---- a packed file that is unchanged before block k

module _ (f x : List ℕ) (few : length f ≤ 2 ^ 30) (k : ℕ) (inside : k < blocks_of x) (within : k < block_count (length f)) (same : (j : ℕ) → j < k → block_of x j ≡ block_for f j) where
  before-right : (j : ℕ) → j < k → fault_of x j ≡ 0
  unfolding fault_of
  before-right j h =
      let here : eqb (j + 1) (blocks_of x) ≡ false = ne_eqb (j + 1) (blocks_of x) (λ q. omega arith) in
      let there : eqb (j + 1) (block_count (length f)) ≡ false = ne_eqb (j + 1) (block_count (length f)) (λ q. omega arith) in
      rw (here, same j h) (rw (blocks-same f, there, block-is f j (omega arith)) at (no-fault-at f few j (omega arith)))

  first-wrong : (n : ℕ) → n ≡ fault_of x k → (n ≡ 0 → ⊥) → n ≡ unpack_fault x
  first-wrong n e z =
      some-fault x n (λ none. omega (arith, block_inside x k inside))
      (e ∙ fault-first (fault_of x) (blocks_of x) k inside (fault-none (fault_of x) k before-right) (λ q. z (e ∙ q)))

  -- it came back as zeros
  pub lost-zeros : 1 < blocks_of x → block_of x k ≡ replicate 512 0 → unpack_fault x ≡ cond (is_zero k) 29 28
  unfolding fault_of
  lost-zeros several lost =
      cases k
      (λ z.
      let here : eqb (k + 1) (blocks_of x) ≡ false = ne_eqb (k + 1) (blocks_of x) (λ q. omega arith) in
      rw (is_zero-is k z) (sym (first-wrong 29 (rw (here, lost) (zero-first k z)) (λ q. omega arith))))
      (λ j z.
      let later : k ≡ 0 → ⊥ = λ q. omega arith in
      rw (is_zero-not k later) (sym (first-wrong 28 (rw lost (zero-later (eqb (k + 1) (blocks_of x)) k later)) (λ q. omega arith))))

  -- another block of the file stands in its place: it is missing and the next ones closed up, or two are exchanged
  pub lost-place : (m : ℕ) → m < block_count (length f) → (m ≡ k → ⊥) → block_of x k ≡ block_for f m → unpack_fault x ≡ 28
  unfolding fault_of block_for
  lost-place m there other lost =
      let v : List ℕ = data_at f m in
      let short = data-few f m in
      let number : big_value (take 4 (block m v)) ≡ m = number-right m v short (numbers f few m there) in
      sym
      (first-wrong 28
      (rw lost (number-fault (eqb (k + 1) (blocks_of x)) k (block m v) (omega (arith, block-long m v short)) (sum-right m v short) (λ q. other (sym number ∙ q))))
      (λ q. omega arith))

pub lost-alone : packed [] ≡ replicate 512 0
unfolding packed join_below block_for block before_sum data_at block_count big_endian block_sum total
lost-alone = refl

-- ---- the last ones missing

first_pieces : (w : ℕ) (f : ℕ → List ℕ) (n k : ℕ) → ((i : ℕ) → length (f i) ≡ w) → k ≤ n → take (w * k) (join_below n f) ≡ join_below k f
unfolding join_below
first_pieces w f zero zero long h = take-nil (w * 0)
first_pieces w f zero (suc k) long h = absurd (omega arith)
first_pieces w f (suc n) k long h =
    test (eqb k (suc n))
    (λ q.
    let all : k ≡ suc n = eqb-true k (suc n) q in
    rw all (take_all (w * suc n) (join_below n f ++ f n) (le_of_eq (pieces-long w f (suc n) (λ i l. long i)))))
    (λ q.
    let less : k ≤ n = omega (arith, eqb-false k (suc n) q) in
    take-append-le (w * k) (join_below n f) (f n) (omega (arith, pieces-long w f n (λ i l. long i), mul-le-mul_left w less))
    ∙ first_pieces w f n k long less)

for-first : (f : List ℕ) (k i : ℕ) → i < k → block_for (take (504 * k) f) i ≡ block_for f i
unfolding block_for data_at
for-first f k i h = ap (block i) (part-taken (504 * i) 504 (504 * k) f (omega arith))

count-first : (f : List ℕ) (k : ℕ) → 0 < k → k < block_count (length f) → block_count (length (take (504 * k) f)) ≡ k
unfolding block_count
count-first f k some h = rw (length-take-le (504 * k) f (omega arith)) (omega arith)

pub lost-end : (f : List ℕ) (k : ℕ) → 0 < k → k < block_count (length f) → take (512 * k) (packed f) ≡ packed (take (504 * k) f)
unfolding packed
lost-end f k some h =
    let g : List ℕ = take (504 * k) f in
    first_pieces 512 (block_for f) (block_count (length f)) k (for-long f) (omega arith)
    ∙ join-same k (block_for f) (block_for g) (λ i l. sym (for-first f k i l))
    ∙ ap (λ (n : ℕ). join_below n (block_for g)) (sym (count-first f k some h))
