-- A packed file without a fault: its blocks are whole and right, and all but the last use 504.
--     right-at whole-blocks count-some   its blocks
--     use-few use-whole use-more         their uses
--     data-room data-long unpacked-long  their data, and how long the file is
--     use-read data-read                 use and data, as code finds them
-- Assumes nothing.
use Rattle.std.proofs.Common.{◌≡◌, ℕ, ◌+◌, ◌-◌, ◌*◌, ◌<◌, ◌≤◌, true, false, not, eqb, List, [], ◌∷◌, length, take, drop, sym, ap, ◌∙◌, arith, length-append, length-drop, length-take, ne_eqb}
use Rattle.metafile.specs.Bytes.{part, is_empty, require}
use Rattle.metafile.specs.Below.{join_below, fault_below}
use Rattle.laws.proofs.First.{untrue, ⊳-left, ⊳-right, require-true}
use Rattle.laws.proofs.Below.{join_more, join-long, sum-part, fault-each}
use Rattle.laws.proofs.Lists.{part-long}
use Rattle.blocks.specs.Blocks.{big_value, blocks_of, block_of, use_of, fault_of, unpack_fault, data_of, unpacked}
use Rattle.blocks.proofs.Pieces.{pieces-long, part-part}
use Rattle.blocks.proofs.Faults.{use-most, use-full, use-some, Right, right}

some_bytes : (x : List ℕ) → not (is_empty x) ≡ true → 0 < length x
unfolding is_empty
some_bytes [] e = untrue e
some_bytes (y ∷ x) e = omega arith

-- one block's data behind those of the blocks before
pub data-room : (x : List ℕ) (i : ℕ) → i < blocks_of x → length (join_below i (data_of x)) + length (data_of x i) ≤ length (unpacked x)
unfolding unpacked
data-room x i h =
    omega (arith, join-long i (data_of x), join-long (blocks_of x) (data_of x), sum-part (λ (k : ℕ). length (data_of x k)) i (blocks_of x) h)

module _ (x : List ℕ) (e : unpack_fault x ≡ 0) where
  some : 0 < length x
  unfolding unpack_fault
  some = some_bytes x (require-true (not (is_empty x)) 28 (⊳-left (require (not (is_empty x)) 29) _ e))

  pub right-at : (i : ℕ) → i < blocks_of x → Right (eqb (i + 1) (blocks_of x)) i (block_of x i)
  unfolding unpack_fault fault_of
  right-at i h = right (fault-each (fault_of x) (blocks_of x) i (⊳-right (require (not (is_empty x)) 29) (fault_below (blocks_of x) (fault_of x)) e) h)

  pub count-some : 0 < blocks_of x
  unfolding blocks_of
  count-some = omega (arith, some)

  pub whole-blocks : length x ≡ 512 * blocks_of x
  unfolding blocks_of block_of
  whole-blocks =
      let last = (right-at (blocks_of x - 1) (omega (arith, count-some))).whole in
      omega (arith, some, simp (length-take, length-drop) at last)

  -- ---- uses

  pub use-few : (i : ℕ) → i < blocks_of x → use_of (block_of x i) ≤ 504
  use-few i h = use-most _ _ _ (right-at i h).used

  pub use-whole : (i : ℕ) → i + 1 < blocks_of x → use_of (block_of x i) ≡ 504
  use-whole i h =
      let other : eqb (i + 1) (blocks_of x) ≡ false = ne_eqb (i + 1) (blocks_of x) (λ q. omega arith) in
      use-full i _ (rw other at (right-at i (omega arith)).used)

  pub use-more : (i : ℕ) → i < blocks_of x → 0 < i → 0 < use_of (block_of x i)
  use-more i h some = use-some _ _ _ (right-at i h).used some

  -- ---- data

  pub data-long : (i : ℕ) → i < blocks_of x → length (data_of x i) ≡ use_of (block_of x i)
  unfolding data_of
  data-long i h = part-long (block_of x i) 6 (use_of (block_of x i)) (omega (arith, (right-at i h).whole, use-few i h))

  pub unpacked-long : length (unpacked x) ≡ 504 * (blocks_of x - 1) + use_of (block_of x (blocks_of x - 1))
  unfolding unpacked
  unpacked-long =
      let m : ℕ = blocks_of x - 1 in
      let all : blocks_of x ≡ m + 1 = omega (arith, count-some) in
      let before : length (join_below m (data_of x)) ≡ 504 * m =
      pieces-long 504 (data_of x) m (λ k l. data-long k (omega arith) ∙ use-whole k (omega arith))
      in
      ap (λ (n : ℕ). length (join_below n (data_of x))) all
      ∙ ap length (join_more m (data_of x))
      ∙ length-append (join_below m (data_of x)) (data_of x m)
      ∙ omega (arith, before, data-long m (omega (arith, count-some)))

  -- ---- as code finds them

  pub use-read : (i p q : ℕ) → p ≡ 512 * i + 4 → q ≡ p + 2 → big_value (take (q - p) (drop p x)) ≡ use_of (block_of x i)
  unfolding use_of block_of
  use-read i p q ep eq =
      let two : q - p ≡ 2 = omega arith in
      rw (two, ep) (ap big_value (sym (part-part (512 * i) 512 4 2 x (omega arith))))

  pub data-read : (i p u : ℕ) → i < blocks_of x → p ≡ 512 * i + 6 → u ≡ use_of (block_of x i) → take (p + u - p) (drop p x) ≡ data_of x i
  unfolding data_of block_of
  data-read i p u h ep eu =
      let long : p + u - p ≡ use_of (part (512 * i) 512 x) = omega arith in
      rw (long, ep) (sym (part-part (512 * i) 512 6 (use_of (part (512 * i) 512 x)) x (omega (arith, use-few i h))))
