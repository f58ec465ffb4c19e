-- What the functions of src/lib.rt need of the definitions in specs/Index.
--     word-is         four bytes of a serial number; nine-are: nine times four, with their weights
--     square-small    the square of a remainder fits
--     first-found     what `position` answers is the first entry that is empty or the tag
--     place-..        the place that is found: near, or the end
-- Assumes nothing.
use Prim.Native.Nat.{ℕ, zero, suc, ◌+◌, ◌-◌, ◌*◌, ◌≤◌, ◌<◌}
use mathlib.Core.Bool.{◌||◌, cond}
use mathlib.Core.Path.{◌≡◌, refl, ap, ◌∙◌}
use mathlib.Core.List.{List, [], ◌∷◌}
use native.Mathlib.Nat.{mul-le-mul_right}
use native.Mathlib.Omega.{arith}
use lib.Dec.{eqb, ltb}
use lib.ListN.{length, take, drop, length-drop}
use borrow.Author.Tests.{lt-ltb, le-ltb, ltb-true, ltb-false}
use Rattle.std.proofs.Common.{Option, Some, None, MatchOption}
use Rattle.std.specs.List.{position_or_len}
use Rattle.std.proofs.lemmas.List.Recursion.{is_position_or_len}
use Rattle.metafile.specs.Bytes.{is_zero}
use Rattle.laws.proofs.First.{test, is_zero-eqb}
use Rattle.sums.specs.Lanes.{half_of}
use Rattle.index.specs.Index.{word_at, hash_of, tag_of, slot_of, first_of, place_for, near_for}

-- ---- the hash

-- four bytes in the part that is handed on
pub word-is : (x : List ℕ) (k : ℕ) → half_of (take (k + 4 - k) (drop k x)) ≡ word_at k x
unfolding word_at
word-is x k = let n : k + 4 - k ≡ 4 = omega arith in rw n

-- nine words with their weights, as they are added
pub nine-are : (x : List ℕ) (a b c d e f g h i : ℕ) → a ≡ word_at 0 x → b ≡ word_at 4 x → c ≡ word_at 8 x → d ≡ word_at 12 x
    → e ≡ word_at 16 x → f ≡ word_at 20 x → g ≡ word_at 24 x → h ≡ word_at 28 x → i ≡ word_at 31 x
    → a * 48271 + b * 69621 + c * 16807 + (d * 39373 + e * 62089 + f * 95353) + (g * 111913 + h * 30323 + i * 84589) ≡ hash_of x
unfolding hash_of
nine-are x a b c d e f g h i p0 p1 p2 p3 p4 p5 p6 p7 p8 = rw (p0, p1, p2, p3, p4, p5, p6, p7, p8)

pub square-small : (m : ℕ) → m < 2147483647 → m * m ≤ 2147483646 * m
square-small m h = mul-le-mul_right m (omega arith)

-- ---- the first entry that is empty or the tag

first-within : (t : ℕ) (xs : List ℕ) → first_of t xs ≤ length xs
unfolding first_of
first-within t [] = omega arith
first-within t (x ∷ xs) = test (is_zero x || eqb x t) (λ q. rw q (omega arith)) (λ q. rw q (omega (arith, first-within t xs)))

first-position : (t : ℕ) (xs : List ℕ) → first_of t xs ≡ position_or_len (λ x. eqb x 0 || eqb x t) xs
unfolding first_of
first-position t xs =
    is_position_or_len (first_of t) (λ x. eqb x 0 || eqb x t) refl
    (λ x ys. let n : suc (first_of t ys) ≡ 1 + first_of t ys = omega arith in rw (is_zero-eqb x, n))
    xs

-- r is what `position` answers
pub first-found : (t : ℕ) (xs : List ℕ) (r : Option ℕ)
    → r ≡ cond (ltb (position_or_len (λ x. eqb x 0 || eqb x t) xs) (length xs)) (Some (position_or_len (λ x. eqb x 0 || eqb x t) xs)) None
    → MatchOption r (first_of t xs ≡ length xs) (λ i. (i ≡ first_of t xs) × (i < length xs))
first-found t xs r e =
    let f : r ≡ cond (ltb (first_of t xs) (length xs)) (Some (first_of t xs)) None = rw first-position e in
    test (ltb (first_of t xs) (length xs))
    (λ q. rw (f, q) (refl, ltb-true (first_of t xs) (length xs) q))
    (λ q. rw (f, q) (omega (arith, first-within t xs, ltb-false (first_of t xs) (length xs) q)))

-- among the first n entries: where it is one of them it is the first of all, else that comes behind them
first-near : (t n : ℕ) (xs : List ℕ) → first_of t (take n xs) < n → n ≤ length xs → first_of t (take n xs) ≡ first_of t xs
unfolding first_of
first-near t zero xs l h = absurd (omega arith)
first-near t (suc n) [] l h = absurd (omega arith)
first-near t (suc n) (x ∷ xs) l h =
    test (is_zero x || eqb x t)
    (λ q. rw q)
    (λ q. rw q (ap suc (first-near t n xs (omega (arith, rw q at l)) (omega arith))))

first-far : (t n : ℕ) (xs : List ℕ) → n ≤ first_of t (take n xs) → n ≤ length xs → n ≤ first_of t xs
unfolding first_of
first-far t zero xs l h = omega arith
first-far t (suc n) [] l h = absurd (omega arith)
first-far t (suc n) (x ∷ xs) l h =
    test (is_zero x || eqb x t)
    (λ q. absurd (omega (arith, rw q at l)))
    (λ q. rw q (omega (arith, first-far t n xs (omega (arith, rw q at l)) (omega arith))))

-- s is the slot, f the first entry among 512 from there on, in the part of the index that is handed on
module _ (h : ℕ) (index : List ℕ) (s t f : ℕ) (slot_is : s ≡ slot_of h) (tag_is : t ≡ tag_of h) (room : 513 + s ≤ length index)
    (first-is : f ≡ first_of t (take (1 + s + 512 - (1 + s)) (drop (1 + s) index))) where
  steps : f ≡ first_of t (take 512 (drop (1 + s) index))
  steps = let n : 1 + s + 512 - (1 + s) ≡ 512 = omega arith in rw n at first-is

  long : 512 ≤ length (drop (1 + s) index)
  long = rw length-drop (omega arith)

  pub place-near : f < 512 → 1 + s + f ≡ near_for h index
  unfolding near_for place_for
  place-near l =
      let is : f ≡ first_of (tag_of h) (drop (1 + slot_of h) index) =
      rw (← slot_is, ← tag_is) (steps ∙ first-near t 512 (drop (1 + s) index) (rw (← steps) l) long) in
      rw (← is, ← slot_is, lt-ltb (1 + s + f) (513 + s) (omega arith))

  pub place-far : 512 ≤ f → length index ≡ near_for h index
  unfolding near_for place_for
  place-far l =
      let far : 512 ≤ first_of (tag_of h) (drop (1 + slot_of h) index) =
      rw (← slot_is, ← tag_is) (first-far t 512 (drop (1 + s) index) (rw (← steps) l) long) in
      rw (le-ltb (1 + slot_of h + first_of (tag_of h) (drop (1 + slot_of h) index)) (513 + slot_of h) (omega arith))
