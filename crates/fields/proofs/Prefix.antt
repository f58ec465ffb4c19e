-- The longest beginning of bytes that pass a test, as std counts it, and what its length tells. Digits, texts and spaces
-- are all judged by it.
--     within low high x                     a byte from low to high
--     within-space spaces-passed            the bounds of a space
--     and_assoc                             tests joined
--     prefix-std, all-std                   the beginning's length and the test of all bytes, in std's words
--     prefix-le, rest_le                    lengths
--     count-le, first-length                lengths, of a count that is the beginning's
--     prefix-is, rest-is                    the beginning and the rest, by its length
--     whole_is                              all pass where the beginning is the whole
--     rest-stops                            the rest does not begin with a byte that passes
-- Assumes nothing.
use Prim.Native.Nat.{ℕ, ◌-◌, ◌≤◌}
use mathlib.Core.Bool.{Bool, true, false, ◌&&◌, and-true}
use mathlib.Core.Path.{◌≡◌, refl, sym, ◌∙◌, fun_ext}
use mathlib.Core.List.{List, [], ◌∷◌}
use native.Mathlib.Omega.{arith}
use lib.Dec.{leb, eqb, eqb-zero-suc, eqb-suc-suc}
use lib.ListN.{length, take, drop}
use lib.Seq.{length-take-le}
use borrow.Author.Tests.{leb-true, leb-false, ne_eqb, eq-eqb}
use Rattle.metafile.specs.Bytes.{all}
use Rattle.metafile.specs.Fields.{is_space, take_while, drop_while}
use Rattle.std.specs.List.{prefix_len, fold}
use Rattle.laws.proofs.First.{test}
use Rattle.laws.proofs.Loops.{part-drop}

-- ---- a byte from low to high

abbrev pub within : ℕ → ℕ → ℕ → Bool
within low high x = leb low x && leb x high

pub within-space : within 32 32 ≡ is_space
unfolding is_space
within-space =
    fun_ext λ x.
    test (leb 32 x)
    (λ p. test (leb x 32)
    (λ q. rw (p, q) (sym (eq-eqb x 32 (omega (arith, leb-true 32 x p, leb-true x 32 q)))))
    (λ q. rw (p, q) (sym (ne_eqb x 32 (omega (arith, leb-false x 32 q))))))
    (λ p. rw p (sym (ne_eqb x 32 (omega (arith, leb-false 32 x p)))))

pub spaces-passed : (s : List ℕ) → drop_while (within 32 32) s ≡ drop_while is_space s
spaces-passed s = rw within-space

pub and_assoc : (a b c : Bool) → ((a && b) && c) ≡ (a && (b && c))
and_assoc true b c = refl
and_assoc false b c = refl

-- ---- in std's words

module _ (p : ℕ → Bool) where
  prefix-len : (s : List ℕ) → prefix_len p s ≡ length (take_while p s)
  unfolding take_while
  prefix-len [] = refl
  prefix-len (x ∷ s) = let h = prefix-len s in test (p x) (λ q. rw (q, h) (omega arith)) (λ q. rw q)

  pub prefix-std : (s : List ℕ) (n : ℕ) → n ≡ prefix_len p s → n ≡ length (take_while p s)
  prefix-std s n e = e ∙ prefix-len s

  all-fold : (s : List ℕ) (good : Bool) → fold (λ b x. b && p x) good s ≡ (good && all p s)
  unfolding all
  all-fold [] good = sym (and-true good)
  all-fold (x ∷ s) good = all-fold s (good && p x) ∙ and_assoc good (p x) (all p s)

  pub all-std : (s : List ℕ) (good : Bool) → good ≡ fold (λ b x. b && p x) true s → good ≡ all p s
  all-std s good e = e ∙ all-fold s true

-- ---- what the length tells

module _ (p : ℕ → Bool) where
  pub prefix-le : (s : List ℕ) → length (take_while p s) ≤ length s
  unfolding take_while
  prefix-le [] = omega arith
  prefix-le (x ∷ s) = let h = prefix-le s in test (p x) (λ q. rw q (omega arith)) (λ q. rw q (omega arith))

  pub rest_le : (s : List ℕ) → length (drop_while p s) ≤ length s
  unfolding drop_while
  rest_le [] = omega arith
  rest_le (x ∷ s) = let h = rest_le s in test (p x) (λ q. rw q (omega arith)) (λ q. rw q (omega arith))

  take-prefix : (s : List ℕ) → take (length (take_while p s)) s ≡ take_while p s
  unfolding take_while
  take-prefix [] = refl
  take-prefix (x ∷ s) = let h = take-prefix s in test (p x) (λ q. rw (q, h)) (λ q. rw q)

  drop-prefix : (s : List ℕ) → drop (length (take_while p s)) s ≡ drop_while p s
  unfolding take_while drop_while
  drop-prefix [] = refl
  drop-prefix (x ∷ s) = let h = drop-prefix s in test (p x) (λ q. rw (q, h)) (λ q. rw q)

  all-prefix : (s : List ℕ) → all p s ≡ eqb (length (take_while p s)) (length s)
  unfolding all take_while
  all-prefix [] = refl
  all-prefix (x ∷ s) = let h = all-prefix s in test (p x) (λ q. rw (q, h, eqb-suc-suc)) (λ q. rw q (sym (eqb-zero-suc (length s))))

  pub rest-stops : (s : List ℕ) → take_while p (drop_while p s) ≡ []
  unfolding take_while drop_while
  rest-stops [] = refl
  rest-stops (x ∷ s) = let h = rest-stops s in test (p x) (λ q. rw q h) (λ q. rw (q, q))

  module _ (s : List ℕ) (n : ℕ) (e : n ≡ length (take_while p s)) where
    pub count-le : n ≤ length s
    count-le = rw e (prefix-le s)

    pub first-length : n ≡ length (take n s)
    first-length = sym (length-take-le n s count-le)

    pub prefix-is : take n s ≡ take_while p s
    prefix-is = rw e (take-prefix s)

    -- as a part to the end of the slice
    pub rest-is : take (length s - n) (drop n s) ≡ drop_while p s
    rest-is = part-drop s n ∙ rw e (drop-prefix s)

    pub whole_is : eqb n (length s) ≡ all p s
    whole_is = rw e (sym (all-prefix s))
