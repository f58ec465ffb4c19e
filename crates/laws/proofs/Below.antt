-- What is asked of the numbers below n, and what they give.
--     any-true any-cases any_none any_next   one of them passes the test, or none does
--     any-more sum_more join_more   one number more
--     any_same sum_same join-same   where the same is asked of each, or each gives the same
--     sum-grows sum-part sum-most   more numbers give no less; one of them; each at most b
--     sum_first                     the first by itself
--     join-long                     the length of their lists, one behind the other
--     fault-none fault-each fault-more fault-first   the first of their faults: none, each none, one number more, the first that is one
--     Every                          a property of all elements of a list; every-join: of lists one behind the other
-- Assumes nothing.
use Prim.Native.Nat.{ℕ, zero, suc, ◌+◌, ◌*◌, ◌≤◌, ◌<◌}
use mathlib.Core.Bool.{Bool, true, false, ◌||◌}
use mathlib.Core.Path.{◌≡◌, refl, sym, ap, ◌∙◌}
use mathlib.Core.List.{List, [], ◌∷◌, ◌++◌}
use native.Mathlib.Nat.{mul-suc}
use native.Mathlib.Omega.{arith}
use native.Mathlib.Numerals.{add-one}
use lib.Dec.{eqb}
use lib.ListN.{length, length-append}
use borrow.Author.Tests.{eqb-true, eqb-false}
use Rattle.metafile.specs.Below.{any_below, join_below, sum_below, fault_below}
use Rattle.laws.proofs.First.{test, untrue, or-true, or_left, or_right, ⊳-left, ⊳-right, ⊳-both, ⊳-stop, ⊳-go}

-- ---- a test

module _ (p : ℕ → Bool) where
  pub any-true : (n k : ℕ) → k < n → p k ≡ true → any_below n p ≡ true
  unfolding any_below
  any-true zero k h e = absurd (omega arith)
  any-true (suc n) k h e =
      test (eqb k n)
      (λ q. or_right (any_below n p) (p n) (sym (ap p (eqb-true k n q)) ∙ e))
      (λ q. or_left (any_below n p) (p n) (any-true n k (omega (arith, eqb-false k n q)) e))

  pub any-cases : {A : Type 0} (n : ℕ) → any_below n p ≡ true → ((k : ℕ) → k < n → p k ≡ true → A) → A
  unfolding any_below
  any-cases zero e f = untrue e
  any-cases (suc n) e f =
      or-true (any_below n p) (p n) e
      (λ q. any-cases n q (λ k h. f k (omega arith)))
      (λ q. f n (omega arith) q)

  pub any_none : any_below 0 p ≡ false
  unfolding any_below
  any_none = refl

  pub any_next : (n : ℕ) → any_below n p ≡ false → p n ≡ false → any_below (n + 1) p ≡ false
  unfolding any_below
  any_next n e q = rw (add-one n, e, q)

pub any-more : (n : ℕ) (p : ℕ → Bool) → any_below (n + 1) p ≡ (any_below n p || p n)
unfolding any_below
any-more n p = rw (add-one n)

pub any_same : (n : ℕ) (p q : ℕ → Bool) → ((k : ℕ) → k < n → p k ≡ q k) → any_below n p ≡ any_below n q
unfolding any_below
any_same zero p q e = refl
any_same (suc n) p q e = rw (any_same n p q (λ k h. e k (omega arith)), e n (omega arith))

-- ---- numbers added up, lists one behind the other

pub sum_more : (n : ℕ) (f : ℕ → ℕ) → sum_below (n + 1) f ≡ sum_below n f + f n
unfolding sum_below
sum_more n f = rw (add-one n)

pub join_more : {A : Type 0} (n : ℕ) (f : ℕ → List A) → join_below (n + 1) f ≡ join_below n f ++ f n
unfolding join_below
join_more n f = rw (add-one n)

pub join-same : {A : Type 0} (n : ℕ) (f g : ℕ → List A) → ((k : ℕ) → k < n → f k ≡ g k) → join_below n f ≡ join_below n g
unfolding join_below
join-same zero f g e = refl
join-same (suc n) f g e = rw (join-same n f g (λ k h. e k (omega arith)), e n (omega arith))

module _ (f : ℕ → ℕ) where
  pub sum-grows : (k n : ℕ) → k ≤ n → sum_below k f ≤ sum_below n f
  unfolding sum_below
  sum-grows k zero h = let none : k ≡ 0 = omega arith in rw none (omega arith)
  sum-grows k (suc n) h =
      test (eqb k (suc n))
      (λ q. rw (eqb-true k (suc n) q) (omega arith))
      (λ q. omega (arith, sum-grows k n (omega (arith, eqb-false k (suc n) q))))

  pub sum-part : (k n : ℕ) → k < n → sum_below k f + f k ≤ sum_below n f
  unfolding sum_below
  sum-part k n h = sum-grows (suc k) n h

  pub sum-most : (b n : ℕ) → ((k : ℕ) → k < n → f k ≤ b) → sum_below n f ≤ b * n
  unfolding sum_below
  sum-most b zero h = omega arith
  sum-most b (suc n) h = rw (mul-suc b n) (omega (arith, sum-most b n (λ k less. h k (omega arith)), h n (omega arith)))

pub sum_same : (n : ℕ) (f g : ℕ → ℕ) → ((k : ℕ) → k < n → f k ≡ g k) → sum_below n f ≡ sum_below n g
unfolding sum_below
sum_same zero f g e = refl
sum_same (suc n) f g e = rw (sum_same n f g (λ k h. e k (omega arith)), e n (omega arith))

pub sum_first : (n : ℕ) (f : ℕ → ℕ) → sum_below (suc n) f ≡ f 0 + sum_below n (λ (i : ℕ). f (suc i))
unfolding sum_below
sum_first zero f = omega arith
sum_first (suc n) f = omega (arith, sum_first n f)

pub join-long : {A : Type 0} (n : ℕ) (f : ℕ → List A) → length (join_below n f) ≡ sum_below n (λ (i : ℕ). length (f i))
unfolding join_below sum_below
join-long zero f = refl
join-long (suc n) f = length-append (join_below n f) (f n) ∙ ap (λ (l : ℕ). l + length (f n)) (join-long n f)

-- ---- the first fault

module _ (p : ℕ → ℕ) where
  pub fault-none : (n : ℕ) → ((k : ℕ) → k < n → p k ≡ 0) → fault_below n p ≡ 0
  unfolding fault_below
  fault-none zero h = refl
  fault-none (suc n) h = ⊳-both (fault_below n p) (p n) (fault-none n (λ k less. h k (omega arith))) (h n (omega arith))

  pub fault-each : (n k : ℕ) → fault_below n p ≡ 0 → k < n → p k ≡ 0
  unfolding fault_below
  fault-each zero k e h = absurd (omega arith)
  fault-each (suc n) k e h =
      test (eqb k n)
      (λ q. ap p (eqb-true k n q) ∙ ⊳-right (fault_below n p) (p n) e)
      (λ q. fault-each n k (⊳-left (fault_below n p) (p n) e) (omega (arith, eqb-false k n q)))

  pub fault-more : (n : ℕ) → fault_below n p ≡ 0 → p n ≡ 0 → fault_below (n + 1) p ≡ 0
  unfolding fault_below
  fault-more n e q = rw (add-one n) (⊳-both (fault_below n p) (p n) e q)

  pub fault-first : (n k : ℕ) → k < n → fault_below k p ≡ 0 → (p k ≡ 0 → ⊥) → p k ≡ fault_below n p
  unfolding fault_below
  fault-first zero k h e q = absurd (omega arith)
  fault-first (suc n) k h e q =
      test (eqb k n)
      (λ t. let same = eqb-true k n t in rw (← same) (sym (⊳-go (fault_below k p) (p k) e)))
      (λ t.
      let near = fault-first n k (omega (arith, eqb-false k n t)) e q in
      near ∙ sym (⊳-stop (fault_below n p) (p n) (λ z. q (near ∙ z))))

-- ---- a property of all elements

unfoldable pub Every : {A : Type 0} → (A → Type 0) → List A → Type 0
Every P [] = Unit {0}
Every P (x ∷ xs) = P x × Every P xs

module _ {A : Type 0} (P : A → Type 0) where
  pub every_append : (xs ys : List A) → Every P xs → Every P ys → Every P (xs ++ ys)
  unfolding Every
  every_append [] ys e f = f
  every_append (x ∷ xs) ys e f = (e.0, every_append xs ys e.1 f)

  pub every-join : (n : ℕ) (f : ℕ → List A) → ((k : ℕ) → k < n → Every P (f k)) → Every P (join_below n f)
  unfolding Every join_below
  every-join zero f e = tt
  every-join (suc n) f e = every_append (join_below n f) (f n) (every-join n f (λ k h. e k (omega arith))) (e n (omega arith))
