-- What is covered by a filter (specs/Filter), for a caller that sets hashes one by one.
--     covering-covers      a hash that is set is covered
--     covering-keeps       and so is what was covered before
--     covering-long        the array stays as long
-- Assumes nothing.
use Prim.Native.Nat.{ℕ, ◌+◌, ◌*◌, ◌/◌, ◌%◌, ◌≤◌, ◌<◌, min}
use mathlib.Core.Bool.{true}
use mathlib.Core.Path.{◌≡◌, refl, sym, ap, ◌∙◌}
use mathlib.Core.List.{List}
use native.Mathlib.Omega.{arith}
use lib.Arith.{bin_ind}
use lib.Bits.{bit_and, bit_or, and_step, or_step, and_zero_r, and_self, or_comm}
use lib.Dec.{eqb}
use lib.ListN.{length, get_or, length-set}
use lib.Seq.{get_or-set_same, get_or-set_other}
use borrow.Author.Tests.{eqb-true, eqb-false, eq-eqb}
use Rattle.laws.proofs.First.{test, and_both, both-and}
use Rattle.filter.specs.Filter.{first_of, second_of, entry_of, bits_of, set_at, with_bits, covered_by, covering}

-- ---- bits that are set stay set

-- the digits above the lowest
digit : (a m x y : ℕ) → a * 2 + min x y ≡ m → x < 2 → y ≡ m % 2 → a ≡ m / 2
digit a m x y e p q = omega arith

halves : (v w m : ℕ) → (bit_and (v / 2) (m / 2) ≡ m / 2 → bit_and (bit_or (v / 2) (w / 2)) (m / 2) ≡ m / 2) → bit_and v m ≡ m
    → bit_and (bit_or v w) m ≡ m
halves v w m f e =
    let o = or_step v w in
    let h : bit_or v w / 2 ≡ bit_or (v / 2) (w / 2) = omega (arith, o) in
    let d = digit (bit_and (v / 2) (m / 2)) m (v % 2) (m % 2) (sym (and_step v m) ∙ e) (omega arith) refl in
    omega (arith, o, and_step v m, e, and_step (bit_or v w) m, ap (λ (x : ℕ). bit_and x (m / 2)) h, f d)

or-keeps : (v w m : ℕ) → bit_and v m ≡ m → bit_and (bit_or v w) m ≡ m
or-keeps =
    bin_ind (λ (v : ℕ). (w m : ℕ) → bit_and v m ≡ m → bit_and (bit_or v w) m ≡ m)
    (λ w m e. ap (bit_and w) (sym e) ∙ and_zero_r w ∙ e)
    (λ v ih w m e. halves v w m (ih (w / 2) (m / 2)) e)

or-sets : (v m : ℕ) → bit_and (bit_or v m) m ≡ m
or-sets v m = ap (λ (x : ℕ). bit_and x m) (or_comm v m) ∙ or-keeps m v m (and_self m)

-- ---- the bits of a number

entry-inside : (n : ℕ) → entry_of n ≤ 196613
unfolding entry_of
entry-inside n = omega arith

with-long : (n : ℕ) (words : List ℕ) → length (with_bits n words) ≡ length words
unfolding with_bits
with-long n words = length-set words (entry_of n) (bit_or (get_or words (entry_of n) 0) (bits_of n))

module _ (n : ℕ) (words : List ℕ) (l : 196613 < length words) where
  with-there : get_or (with_bits n words) (entry_of n) 0 ≡ bit_or (get_or words (entry_of n) 0) (bits_of n)
  unfolding with_bits
  with-there =
      get_or-set_same words (entry_of n) (bit_or (get_or words (entry_of n) 0) (bits_of n)) 0 (omega (arith, entry-inside n))

  with-sets : set_at n (with_bits n words) ≡ true
  unfolding set_at
  with-sets =
      let v = get_or words (entry_of n) 0 in
      rw with-there (eq-eqb (bit_and (bit_or v (bits_of n)) (bits_of n)) (bits_of n) (or-sets v (bits_of n)))

  with-keeps : (k : ℕ) → set_at k words ≡ true → set_at k (with_bits n words) ≡ true
  unfolding set_at with_bits
  with-keeps k e =
      let v = get_or words (entry_of n) 0 in
      let was = eqb-true (bit_and (get_or words (entry_of k) 0) (bits_of k)) (bits_of k) e in
      test (eqb (entry_of k) (entry_of n))
      (λ q.
      let same = eqb-true (entry_of k) (entry_of n) q in
      eq-eqb (bit_and (get_or (with_bits n words) (entry_of k) 0) (bits_of k)) (bits_of k)
      (rw (same, with-there) (or-keeps v (bits_of n) (bits_of k) (rw same at was))))
      (λ q. rw (get_or-set_other words (entry_of n) (entry_of k) (bit_or v (bits_of n)) 0 (eqb-false (entry_of k) (entry_of n) q)) e)

-- ---- the bits of a hash

pub covering-long : (h : ℕ) (words : List ℕ) → length (covering h words) ≡ length words
unfolding covering
covering-long h words = with-long (second_of h) (with_bits (first_of h) words) ∙ with-long (first_of h) words

pub covering-covers : (h : ℕ) (words : List ℕ) → 196613 < length words → covered_by (covering h words) h ≡ true
unfolding covered_by covering
covering-covers h words l =
    let half = with_bits (first_of h) words in
    let m : 196613 < length half = omega (arith, with-long (first_of h) words) in
    both-and (set_at (first_of h) (covering h words)) (set_at (second_of h) (covering h words))
    (with-keeps (second_of h) half m (first_of h) (with-sets (first_of h) words l))
    (with-sets (second_of h) half m)

pub covering-keeps : (h g : ℕ) (words : List ℕ) → 196613 < length words → covered_by words g ≡ true
    → covered_by (covering h words) g ≡ true
unfolding covered_by covering
covering-keeps h g words l e =
    let half = with_bits (first_of h) words in
    let m : 196613 < length half = omega (arith, with-long (first_of h) words) in
    let both = and_both (set_at (first_of g) words) (set_at (second_of g) words) e in
    both-and (set_at (first_of g) (covering h words)) (set_at (second_of g) (covering h words))
    (with-keeps (second_of h) half m (first_of g) (with-keeps (first_of h) words l (first_of g) both.0))
    (with-keeps (second_of h) half m (second_of g) (with-keeps (first_of h) words l (second_of g) both.1))
