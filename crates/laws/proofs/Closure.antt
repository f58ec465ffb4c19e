-- What `by_way` is: the least relation that has every step and is closed by way of rows below n, so reachability. And what
-- follows for `within` and `circular_from`.
--     way_step way_on way-least   every step is a way; two ways make one; any relation with both has every way
--     way-inside                  a set that is closed under steps
--     way_same within_same circular-same   steps that agree below n
--     within-..  circle-in circle-out circle-on   rows within a row, and a circle reached from it
-- Assumes nothing.
use Prim.Native.Nat.{ℕ, zero, suc, ◌≤◌, ◌<◌}
use mathlib.Core.Bool.{Bool, true}
use mathlib.Core.Path.{◌≡◌}
use native.Mathlib.Omega.{arith}
use lib.Dec.{eqb}
use borrow.Author.Tests.{eqb-true, eqb-false, eq-eqb}
use Rattle.metafile.specs.Closure.{by_way, within, circular_from}
use Rattle.laws.proofs.First.{test, and_both, both-and, or-true, or_left, or_right}
use Rattle.laws.proofs.Below.{any-true, any-cases, any_same}

-- ---- ways

module _ (step : ℕ → ℕ → Bool) where
  -- one row more to go by: the ways without it, and those that go through it
  more : (c a b : ℕ) → by_way step c a b ≡ true → by_way step (suc c) a b ≡ true
  unfolding by_way
  more c a b w = or_left _ _ w

  through : (c a b : ℕ) → by_way step c a c ≡ true → by_way step c c b ≡ true → by_way step (suc c) a b ≡ true
  unfolding by_way
  through c a b v w = or_right (by_way step c a b) _ (both-and _ _ v w)

  parts : {A : Type 0} (c a b : ℕ) → by_way step (suc c) a b ≡ true → (by_way step c a b ≡ true → A)
      → (by_way step c a c ≡ true → by_way step c c b ≡ true → A) → A
  unfolding by_way
  parts c a b w f g = or-true (by_way step c a b) _ w f (λ e. let both = and_both _ _ e in g both.0 both.1)

  -- the way to row c, and the way from it, without it
  up_to : (c a : ℕ) → by_way step (suc c) a c ≡ true → by_way step c a c ≡ true
  up_to c a w = parts c a c w (λ v. v) (λ v u. v)

  on-from : (c b : ℕ) → by_way step (suc c) c b ≡ true → by_way step c c b ≡ true
  on-from c b w = parts c c b w (λ v. v) (λ v u. u)

  pub way_step : (c a b : ℕ) → step a b ≡ true → by_way step c a b ≡ true
  unfolding by_way
  way_step zero a b s = s
  way_step (suc c) a b s = more c a b (way_step c a b s)

  -- a way to b and one from b
  pub way_on : (c a b d : ℕ) → b < c → by_way step c a b ≡ true → by_way step c b d ≡ true → by_way step c a d ≡ true
  way_on zero a b d h v w = absurd (omega arith)
  way_on (suc c) a b d h v w =
      test (eqb b c)
      (λ q. let e = eqb-true b c q in through c a d (up_to c a (rw e at v)) (on-from c d (rw e at w)))
      (λ q.
      let l : b < c = omega (arith, eqb-false b c q) in
      parts c a b v
      (λ v'. parts c b d w (λ w'. more c a d (way_on c a b d l v' w')) (λ w' w''. through c a d (way_on c a b c l v' w') w''))
      (λ v' v''. parts c b d w (λ w'. through c a d v' (way_on c c b d l v'' w')) (λ w' w''. through c a d v' w'')))

  pub way-least : (R : ℕ → ℕ → Type 0) (n : ℕ) → ((a b : ℕ) → step a b ≡ true → R a b) → ((a b d : ℕ) → b < n → R a b → R b d → R a d)
      → (c a b : ℕ) → c ≤ n → by_way step c a b ≡ true → R a b
  unfolding by_way
  way-least R n one on zero a b h w = one a b w
  way-least R n one on (suc c) a b h w =
      let least : (x y : ℕ) → by_way step c x y ≡ true → R x y = λ x y. way-least R n one on c x y (omega arith) in
      parts c a b w (λ v. least a b v) (λ v u. on a c b h (least a c v) (least c b u))

  -- a set that is closed under steps and has all that a goes to has all that a reaches; a itself need not be in it
  pub way-inside : (S : ℕ → Type 0) (n : ℕ) → ((a b : ℕ) → a < n → b < n → S a → step a b ≡ true → S b)
      → (a b : ℕ) → ((d : ℕ) → d < n → step a d ≡ true → S d) → b < n → by_way step n a b ≡ true → S b
  way-inside S n closed a b start h w =
      way-least (λ x y. ((d : ℕ) → d < n → step x d ≡ true → S d) → y < n → S y) n
      (λ x y s from i. from y i s)
      (λ x y z i p q from k. q (λ d l s. closed y d i l (p from i) s) k)
      n a b (omega arith) w start h

-- ---- rows within a row, and circles

module _ (step : ℕ → ℕ → Bool) (n : ℕ) where
  pub within-own : (a b : ℕ) → b ≡ a → within step n a b ≡ true
  unfolding within
  within-own a b e = or_left _ _ (eq-eqb b a e)

  pub within-way : (a b : ℕ) → by_way step n a b ≡ true → within step n a b ≡ true
  unfolding within
  within-way a b w = or_right (eqb b a) _ w

  pub within-cases : {A : Type 0} (a b : ℕ) → within step n a b ≡ true → (b ≡ a → A) → (by_way step n a b ≡ true → A) → A
  unfolding within
  within-cases a b w f g = or-true (eqb b a) _ w (λ e. f (eqb-true b a e)) g

  -- a goes to b, and d is within b: a reaches d
  pub way-from : (a b d : ℕ) → b < n → step a b ≡ true → within step n b d ≡ true → by_way step n a d ≡ true
  way-from a b d h s w =
      let first : by_way step n a b ≡ true = way_step step n a b s in
      within-cases b d w (λ e. rw e first) (λ v. way_on step n a b d h first v)

  -- b is within a, and goes to d: a reaches d
  pub way-to : (a b d : ℕ) → b < n → within step n a b ≡ true → step b d ≡ true → by_way step n a d ≡ true
  way-to a b d h w s =
      let last : by_way step n b d ≡ true = way_step step n b d s in
      within-cases a b w (λ e. rw e at last) (λ v. way_on step n a b d h v last)

  pub circle-in : (a i : ℕ) → i < n → within step n a i ≡ true → by_way step n i i ≡ true → circular_from step n a ≡ true
  unfolding circular_from
  circle-in a i h w c = any-true _ n i h (both-and _ _ w c)

  pub circle-out : {A : Type 0} (a : ℕ) → circular_from step n a ≡ true
      → ((i : ℕ) → i < n → within step n a i ≡ true → by_way step n i i ≡ true → A) → A
  unfolding circular_from
  circle-out a e f = any-cases _ n e (λ i h q. let both = and_both _ _ q in f i h both.0 both.1)

  -- a goes to b: a circle that b reaches is one that a reaches
  pub circle-on : (a b : ℕ) → b < n → step a b ≡ true → circular_from step n b ≡ true → circular_from step n a ≡ true
  circle-on a b h s e = circle-out b e (λ i l w c. circle-in a i l (within-way a i (way-from a b i h s w)) c)

-- ---- steps that agree below n

module _ (step step' : ℕ → ℕ → Bool) (n : ℕ) (same : (a b : ℕ) → a < n → b < n → step a b ≡ step' a b) where
  way-alike : (c a b : ℕ) → c ≤ n → a < n → b < n → by_way step c a b ≡ by_way step' c a b
  unfolding by_way
  way-alike zero a b k h l = same a b h l
  way-alike (suc c) a b k h l =
      rw (way-alike c a b (omega arith) h l, way-alike c a c (omega arith) h k, way-alike c c b (omega arith) k l)

  pub way_same : (a b : ℕ) → a < n → b < n → by_way step n a b ≡ by_way step' n a b
  way_same a b h l = way-alike n a b (omega arith) h l

  pub within_same : (a b : ℕ) → a < n → b < n → within step n a b ≡ within step' n a b
  unfolding within
  within_same a b h l = rw (way_same a b h l)

  pub circular-same : (a : ℕ) → a < n → circular_from step n a ≡ circular_from step' n a
  unfolding circular_from
  circular-same a h = any_same n _ _ (λ i l. rw (within_same a i h l, way_same i i l l))
