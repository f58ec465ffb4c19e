-- The fault of a block, by its tests in their order, and what holds of a block that has none.
--     short-fault sum-fault number-fault use-fault spare-fault no-fault   the answers, as code comes to them
--     Right right      what holds of a block without a fault
--     use-most use-full use-some   a right use
-- Assumes nothing.
use Rattle.std.proofs.Common.{◌≡◌, ℕ, zero, suc, ◌+◌, ◌-◌, ◌<◌, ◌≤◌, Bool, true, false, ◌&&◌, ◌||◌, eqb, leb, List, length, take, sym, ◌∙◌, arith, eq-eqb, ne_eqb, eqb-true, le-leb, leb-true}
use borrow.Author.Tests.{lt-leb}
use Rattle.metafile.specs.Bytes.{part, all, is_zero, non_zero, ◌⊳◌, require}
use Rattle.laws.proofs.First.{untrue, and_both, or-true, is_zero-zero, ⊳-left, ⊳-right, require-true, require-met, require-unmet}
use Rattle.laws.proofs.Stages.{unmet, met}
use Rattle.blocks.specs.Blocks.{big_value, block_sum, use_of, use_right, block_fault}

-- ---- a right use

above : (u : ℕ) → non_zero u ≡ true → 0 < u
unfolding non_zero is_zero
above zero e = untrue e
above (suc u) e = omega arith

module _ (i u : ℕ) where
  pub use-most : (last : Bool) → use_right last i u ≡ true → u ≤ 504
  unfolding use_right
  use-most last e =
      leb-true u 504 (and_both (leb u 504) (last || eqb u 504) (and_both (leb u 504 && (last || eqb u 504)) _ e).0).0

  pub use-full : use_right false i u ≡ true → u ≡ 504
  unfolding use_right
  use-full e =
      eqb-true u 504 (and_both (leb u 504) (eqb u 504) (and_both (leb u 504 && eqb u 504) _ e).0).1

  pub use-some : (last : Bool) → use_right last i u ≡ true → 0 < i → 0 < u
  unfolding use_right
  use-some last e h =
      or-true (is_zero i) (non_zero u) (and_both (leb u 504 && (last || eqb u 504)) (is_zero i || non_zero u) e).1
      (λ z. absurd (omega (arith, is_zero-zero i z)))
      (λ n. above u n)

-- ---- the tests, in their order

module _ (last : Bool) (i : ℕ) (b : List ℕ) where
  pub short-fault : length b < 512 → 29 ≡ block_fault last i b
  unfolding block_fault
  short-fault h = unmet (leb 512 (length b)) 28 _ (lt-leb 512 (length b) h)

  module _ (whole : 512 ≤ length b) where
    pub sum-fault : {s v : ℕ} → s ≡ block_sum (take 510 b) → v ≡ big_value (part 510 2 b) → (s ≡ v → ⊥) → 27 ≡ block_fault last i b
    unfolding block_fault
    sum-fault es ev n =
        met _ 29 _ 27 (le-leb 512 (length b) whole)
        (unmet _ 26 _ (ne_eqb (block_sum (take 510 b)) (big_value (part 510 2 b)) (λ q. n (es ∙ q ∙ sym ev))))

    module _ (summed : block_sum (take 510 b) ≡ big_value (part 510 2 b)) where
      past-sum : {f : ℕ} (g : ℕ) → f ≡ g → f ≡ require (leb 512 (length b)) 29 ⊳ require (eqb (block_sum (take 510 b)) (big_value (part 510 2 b))) 27 ⊳ g
      past-sum g e = met _ 29 _ _ (le-leb 512 (length b) whole) (met _ 27 _ _ (eq-eqb (block_sum (take 510 b)) (big_value (part 510 2 b)) summed) e)

      pub number-fault : (big_value (take 4 b) ≡ i → ⊥) → 28 ≡ block_fault last i b
      unfolding block_fault
      number-fault n = past-sum _ (unmet _ 27 _ (ne_eqb (big_value (take 4 b)) i n))

      module _ (numbered : big_value (take 4 b) ≡ i) where
        pub use-fault : use_right last i (use_of b) ≡ false → 29 ≡ block_fault last i b
        unfolding block_fault
        use-fault n = past-sum _ (met _ 28 _ 29 (eq-eqb (big_value (take 4 b)) i numbered) (unmet _ 28 _ n))

        module _ (used : use_right last i (use_of b) ≡ true) where
          past-use : {f : ℕ} → f ≡ require (all is_zero (part (6 + use_of b) (504 - use_of b) b)) 29 → f ≡ block_fault last i b
          unfolding block_fault
          past-use e = past-sum _ (met _ 28 _ _ (eq-eqb (big_value (take 4 b)) i numbered) (met _ 29 _ _ used e))

          pub spare-fault : all is_zero (part (6 + use_of b) (504 - use_of b) b) ≡ false → 29 ≡ block_fault last i b
          spare-fault n = past-use (sym (require-unmet _ 29 n))

          pub no-fault : all is_zero (part (6 + use_of b) (504 - use_of b) b) ≡ true → 0 ≡ block_fault last i b
          no-fault e = past-use (sym (require-met _ 29 e))

-- ---- a block without a fault

pub record Right (last : Bool) (i : ℕ) (b : List ℕ) : Type 0 where
  pub whole : 512 ≤ length b
  pub summed : block_sum (take 510 b) ≡ big_value (part 510 2 b)
  pub numbered : big_value (take 4 b) ≡ i
  pub used : use_right last i (use_of b) ≡ true
  pub spare : all is_zero (part (6 + use_of b) (504 - use_of b) b) ≡ true

pub right : {last : Bool} {i : ℕ} {b : List ℕ} → block_fault last i b ≡ 0 → Right last i b
unfolding block_fault
right {last} {i} {b} e =
    let behind-length = ⊳-right (require (leb 512 (length b)) 29) _ e in
    let behind_sum = ⊳-right (require (eqb (block_sum (take 510 b)) (big_value (part 510 2 b))) 27) _ behind-length in
    let behind-number = ⊳-right (require (eqb (big_value (take 4 b)) i) 28) _ behind_sum in
    record {
      whole = leb-true 512 (length b) (require-true _ 28 (⊳-left (require (leb 512 (length b)) 29) _ e));
      summed = eqb-true _ _ (require-true _ 26 (⊳-left (require (eqb (block_sum (take 510 b)) (big_value (part 510 2 b))) 27) _ behind-length));
      numbered = eqb-true _ _ (require-true _ 27 (⊳-left (require (eqb (big_value (take 4 b)) i) 28) _ behind_sum));
      used = require-true _ 28 (⊳-left (require (use_right last i (use_of b)) 29) _ behind-number);
      spare = require-true _ 28 (⊳-right (require (use_right last i (use_of b)) 29) _ behind-number);
    }
