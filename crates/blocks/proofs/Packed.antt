-- What is packed is taken and given back, and only packed files are taken.
--     unpack-pack     "Unpacking a packed file returns that file"
--     pack-unpack     "only packed files are accepted"
--     unpacked-short  what is unpacked is no longer than its blocks
-- Assumes nothing.
use Rattle.std.proofs.Common.{◌≡◌, ℕ, zero, suc, ◌+◌, ◌-◌, ◌*◌, ◌^◌, ◌<◌, ◌≤◌, true, not, ◌||◌, eqb, leb, List, [], ◌∷◌, length, replicate, sym, refl, ap, ◌∙◌, le_of_eq, arith, length-append, length-drop, length-take, take_all, eq-eqb, le-leb}
use borrow.Author.Tests.{eqb-false}
use Rattle.metafile.specs.Bytes.{part, all, is_zero, non_zero, is_empty, require}
use Rattle.metafile.specs.Below.{join_below, fault_below}
use Rattle.laws.proofs.First.{test, cases, both-and, or_left, or_right, is_zero-is, is_zero-not, ⊳-both, require-met}
use Rattle.laws.proofs.Below.{join-same, fault-none}
use Rattle.laws.proofs.Lists.{part-long}
use Rattle.blocks.specs.Blocks.{block, block_count, data_at, block_for, packed, blocks_of, block_of, use_right, fault_of, unpack_fault, data_of, unpacked, is_byte}
use Rattle.blocks.proofs.Pieces.{piece-at, parts-joined}
use Rattle.blocks.proofs.Faults.{no-fault}
use Rattle.blocks.proofs.Shape.{block-long, sum-right, number-right, block-data, block-spare, use-is, data-few, for-long, packed-long, bytes-part, block-again}
use Rattle.blocks.proofs.Taken.{right-at, whole-blocks, count-some, use-few, use-whole, use-more, data-long, unpacked-long}

-- ---- how many blocks

one_block : (n : ℕ) → 0 < block_count n
unfolding block_count
one_block n = omega arith

enough : (n : ℕ) → n ≤ 504 * block_count n
unfolding block_count
enough n = omega arith

module _ (f : List ℕ) (i : ℕ) where
  data-full : i + 1 < block_count (length f) → length (data_at f i) ≡ 504
  unfolding data_at block_count
  data-full h = part-long f (504 * i) 504 (omega arith)

  data-some : 0 < i → i < block_count (length f) → 0 < length (data_at f i)
  unfolding data_at block_count
  data-some p h = simp (length-take, length-drop) (omega arith)

pub blocks-same : (f : List ℕ) → blocks_of (packed f) ≡ block_count (length f)
unfolding blocks_of
blocks-same f = omega (arith, packed-long f)

pub block-is : (f : List ℕ) (i : ℕ) → i < block_count (length f) → block_of (packed f) i ≡ block_for f i
unfolding block_of packed
block-is f i h = piece-at 512 (block_for f) (block_count (length f)) i (λ k l. for-long f k) (λ k l. le_of_eq (for-long f k)) h

-- ---- a block that was made has no fault

all-zeros : (n : ℕ) → all is_zero (replicate n 0) ≡ true
unfolding all is_zero
all-zeros zero = refl
all-zeros (suc n) = all-zeros n

is_some : (u : ℕ) → 0 < u → non_zero u ≡ true
unfolding non_zero
is_some u h = ap not (is_zero-not u (λ z. omega arith))

use-of : (f : List ℕ) (i : ℕ) → i < block_count (length f) → use_right (eqb (i + 1) (block_count (length f))) i (length (data_at f i)) ≡ true
unfolding use_right
use-of f i h =
    let n : ℕ = block_count (length f) in
    let u : ℕ = length (data_at f i) in
    let full : (eqb (i + 1) n || eqb u 504) ≡ true =
    test (eqb (i + 1) n)
    (λ t. or_left (eqb (i + 1) n) (eqb u 504) t)
    (λ t. or_right (eqb (i + 1) n) (eqb u 504) (eq-eqb u 504 (data-full f i (omega (arith, eqb-false (i + 1) n t)))))
    in
    let more : (is_zero i || non_zero u) ≡ true =
    cases i
    (λ z. or_left (is_zero i) (non_zero u) (is_zero-is i z))
    (λ k z. or_right (is_zero i) (non_zero u) (is_some u (data-some f i (omega arith) h)))
    in
    both-and _ (is_zero i || non_zero u) (both-and (leb u 504) _ (le-leb u 504 (data-few f i)) full) more

some-blocks : (x : List ℕ) → 0 < length x → not (is_empty x) ≡ true
unfolding is_empty
some-blocks [] h = absurd (omega arith)
some-blocks (y ∷ x) h = refl

module _ (f : List ℕ) (short : length f ≤ 2 ^ 30) where
  pub numbers : (i : ℕ) → i < block_count (length f) → i < 256 ^ 4
  unfolding block_count
  numbers i h = omega arith

  pub no-fault-at : (i : ℕ) → i < block_count (length f) → fault_of (packed f) i ≡ 0
  unfolding fault_of block_for
  no-fault-at i h =
      let v : List ℕ = data_at f i in
      let few = data-few f i in
      rw (blocks-same f, block-is f i h)
      (sym
      (no-fault (eqb (i + 1) (block_count (length f))) i (block i v)
      (omega (arith, block-long i v few))
      (sum-right i v few)
      (number-right i v few (numbers i h))
      (rw (use-is i v few) (use-of f i h))
      (rw (use-is i v few, block-spare i v few) (all-zeros (504 - length v)))))

  some-packed : not (is_empty (packed f)) ≡ true
  some-packed = some-blocks (packed f) (omega (arith, packed-long f, one_block (length f)))

  pub packed-right : unpack_fault (packed f) ≡ 0
  unfolding unpack_fault
  packed-right =
      ⊳-both (require (not (is_empty (packed f))) 29) (fault_below (blocks_of (packed f)) (fault_of (packed f)))
      (require-met (not (is_empty (packed f))) 29 some-packed)
      (fault-none (fault_of (packed f)) (blocks_of (packed f)) (λ k l. no-fault-at k (omega (arith, blocks-same f))))

data-same : (f : List ℕ) (i : ℕ) → i < block_count (length f) → data_of (packed f) i ≡ data_at f i
unfolding data_of block_for
data-same f i h =
    let v : List ℕ = data_at f i in
    rw (block-is f i h, use-is i v (data-few f i)) (block-data i v (data-few f i))

pub packed-back : (f : List ℕ) → unpacked (packed f) ≡ f
unfolding unpacked data_at
packed-back f =
    let n : ℕ = block_count (length f) in
    ap (λ (k : ℕ). join_below k (data_of (packed f))) (blocks-same f)
    ∙ join-same n (data_of (packed f)) (λ (i : ℕ). part (504 * i) 504 f) (data-same f)
    ∙ parts-joined 504 n f
    ∙ take_all (504 * n) f (enough (length f))

-- "Unpacking a packed file returns that file"; a file of up to 2 ^ 30 bytes has numbers for its blocks
pub unpack-pack : (f : List ℕ) → length f ≤ 2 ^ 30 → (unpack_fault (packed f) ≡ 0) × (unpacked (packed f) ≡ f)
unpack-pack f h = (packed-right f h, packed-back f)

-- ---- only packed files

module _ (x : List ℕ) (e : unpack_fault x ≡ 0) where
  count-again : block_count (length (unpacked x)) ≡ blocks_of x
  unfolding block_count
  count-again =
      let last : ℕ = blocks_of x - 1 in
      let less : last < blocks_of x = omega (arith, count-some x e) in
      cases last
      (λ z. omega (arith, unpacked-long x e, use-few x e last less, count-some x e))
      (λ k z. omega (arith, unpacked-long x e, use-few x e last less, use-more x e last less (omega arith), count-some x e))

  data-again : (i : ℕ) → i < blocks_of x → data_at (unpacked x) i ≡ data_of x i
  unfolding data_at unpacked
  data-again i h =
      piece-at 504 (data_of x) (blocks_of x) i
      (λ k l. data-long x e k (omega arith) ∙ use-whole x e k l)
      (λ k l. omega (arith, data-long x e k l, use-few x e k l))
      h

  block-whole : (i : ℕ) → i < blocks_of x → length (block_of x i) ≡ 512
  unfolding block_of
  block-whole i h = part-long x (512 * i) 512 (omega (arith, whole-blocks x e))

  module _ (bytes : all is_byte x ≡ true) where
    block-bytes : (i : ℕ) → all is_byte (block_of x i) ≡ true
    unfolding block_of
    block-bytes i = bytes-part x (512 * i) 512 bytes

    for-again : (i : ℕ) → i < blocks_of x → block_for (unpacked x) i ≡ block_of x i
    unfolding block_for data_of
    for-again i h =
        let r = right-at x e i h in
        rw (data-again i h) (block-again r (block-whole i h) (block-bytes i))

-- "only packed files are accepted"
pub pack-unpack : (x : List ℕ) → all is_byte x ≡ true → unpack_fault x ≡ 0 → x ≡ packed (unpacked x)
unfolding packed block_of
pack-unpack x bytes e =
    sym
    (ap (λ (k : ℕ). join_below k (block_for (unpacked x))) (count-again x e)
    ∙ join-same (blocks_of x) (block_for (unpacked x)) (λ (i : ℕ). part (512 * i) 512 x) (for-again x e bytes)
    ∙ parts-joined 512 (blocks_of x) x
    ∙ take_all (512 * blocks_of x) x (omega (arith, whole-blocks x e)))

-- ---- lengths

shorter : (n : ℕ) (f g : ℕ → List ℕ) → ((k : ℕ) → length (f k) ≤ length (g k)) → length (join_below n f) ≤ length (join_below n g)
unfolding join_below
shorter zero f g h = omega arith
shorter (suc n) f g h = simp length-append (omega (arith, shorter n f g h, h n))

data-shorter : (x : List ℕ) (i : ℕ) → length (data_of x i) ≤ length (block_of x i)
unfolding data_of
data-shorter x i = simp (length-take, length-drop) (omega arith)

pub unpacked-short : (x : List ℕ) → length (unpacked x) ≤ length x
unfolding unpacked block_of
unpacked-short x =
    let n : ℕ = blocks_of x in
    omega (arith, shorter n (data_of x) (block_of x) (data-shorter x), ap length (parts-joined 512 n x), length-take (512 * n) x)
