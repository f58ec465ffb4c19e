-- When a chain of dependencies comes back to a chunk on it.
--     rests_on-exactly              k, or what it reaches
--     circle-exactly circle-chain  a circle: a row that k rests on and that reaches itself, by a chain of dependencies
--     no-circle-own                without one k doesn't reach itself
--     parents-first listed-before  where every dependency names an earlier row: no circle, and only earlier rows are listed
-- Assumes nothing.
use Prim.Native.Nat.{ℕ, ◌<◌}
use mathlib.Core.Bool.{true, false}
use mathlib.Core.Logic.{◌↔◌, ◌⊎◌, inl, inr, ⊎_elim}
use mathlib.Core.Path.{◌≡◌, refl, sym, ◌∙◌}
use mathlib.Core.List.{List}
use native.Mathlib.Omega.{arith}
use lib.ListN.{length}
use Rattle.metafile.specs.Reading.{rows_of}
use Rattle.metafile.specs.Append.{is_in}
use Rattle.metafile.specs.Ancestors.{depends_on, reaches, ancestor_rows, rests_on, circular}
use Rattle.laws.proofs.First.{test, untrue}
use Rattle.laws.proofs.Closure.{within-own, within-way, within-cases, circle-in, circle-out}
use Rattle.ancestor_laws.specs.Chain.{chain}
use Rattle.ancestor_laws.proofs.Reached.{reaches-rows, reaches-least, reaches-chain, chain-reaches}
use Rattle.ancestor_laws.proofs.Listed.{listed-exactly}

module _ (file : List ℕ) where
  -- k rests on itself and on what it reaches
  pub rests_on-exactly : (k i : ℕ) → rests_on file k i ≡ true ↔ ((i ≡ k) ⊎ (reaches file k i ≡ true))
  unfolding rests_on reaches
  rests_on-exactly k i = (
    λ e. within-cases (depends_on file) (length (rows_of file)) k i e (λ q. inl q) (λ w. inr w),
    ⊎_elim (λ q. within-own (depends_on file) (length (rows_of file)) k i q) (λ w. within-way (depends_on file) (length (rows_of file)) k i w),
  )

  -- there is a circle exactly if k rests on a row that reaches itself
  pub circle-exactly : (k : ℕ) → circular file k ≡ true ↔ ((i : ℕ) × (rests_on file k i ≡ true) × (reaches file i i ≡ true))
  unfolding circular rests_on reaches
  circle-exactly k = (
    λ e. circle-out (depends_on file) (length (rows_of file)) k e (λ i h r w. (i, r, w)),
    λ c. circle-in (depends_on file) (length (rows_of file)) k c.0 (reaches-rows file c.0 c.0 c.2).0 c.1 c.2,
  )

  -- the same by a chain that comes back
  pub circle-chain : (k : ℕ)
      → circular file k ≡ true
      ↔ ((i : ℕ) × (rests_on file k i ≡ true) × ((xs : List ℕ) × (chain (depends_on file) i xs i ≡ true)))
  circle-chain k = (
    λ e. let c = (circle-exactly k).0 e in (c.0, c.1, reaches-chain file c.0 c.0 c.2),
    λ c. (circle-exactly k).1 (c.0, c.1, chain-reaches file c.0 c.2.0 c.0 c.2.1),
  )

  -- without a circle k doesn't reach itself: it is left out of the list by itself
  pub no-circle-own : (k : ℕ) → circular file k ≡ false → reaches file k k ≡ false
  no-circle-own k e =
      test (reaches file k k)
      (λ w. untrue (sym e ∙ (circle-exactly k).1 (k, (rests_on-exactly k k).1 (inl refl), w)))
      (λ q. q)

  -- ---- files in which every dependency names an earlier row

  module _ (earlier : (a b : ℕ) → depends_on file a b ≡ true → b < a) where
    -- what is reached is earlier
    pub reaches-before : (a b : ℕ) → reaches file a b ≡ true → b < a
    reaches-before a b w = reaches-least file (λ x y. y < x) earlier (λ x y z p q. omega arith) a b w

    -- there is no circle
    pub parents-first : (k : ℕ) → circular file k ≡ false
    parents-first k =
        test (circular file k)
        (λ e. let c = (circle-exactly k).0 e in absurd (omega (arith, reaches-before c.0 c.0 c.2)))
        (λ q. q)

    -- only earlier rows are listed
    pub listed-before : (k i : ℕ) → is_in i (ancestor_rows file k) ≡ true → i < k
    listed-before k i e = reaches-before k i ((listed-exactly file k i).0 e).1
