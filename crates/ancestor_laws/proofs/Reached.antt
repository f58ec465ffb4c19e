-- What `reaches` is: the least relation that has every dependency and is closed under composition, and exactly the rows to
-- which a chain of dependencies leads, of any length.
--     chain-on chain-way way-chain   chains over any step
--     depends-exactly depends-rows   what a dependency leads to: from a row to a row
--     reaches_step reaches-on reaches-rows reaches-least
--     reaches-chain chain-reaches    a chain of dependencies
-- Assumes nothing.
use Prim.Native.Nat.{ℕ, ◌≤◌, ◌<◌}
use mathlib.Core.Bool.{Bool, true}
use mathlib.Core.Logic.{◌↔◌}
use mathlib.Core.Path.{◌≡◌, ap}
use mathlib.Core.List.{List, [], ◌∷◌, ◌++◌}
use native.Mathlib.Omega.{arith}
use lib.Dec.{ltb, eqb}
use lib.ListN.{length, get_or-eq_default}
use borrow.Author.Tests.{ltb-true, ltb-false, lt-ltb, eqb-true, eq-eqb}
use Rattle.metafile.specs.declared.Row.{Row}
use Rattle.metafile.specs.Below.{any_below}
use Rattle.metafile.specs.Closure.{by_way}
use Rattle.metafile.specs.Reading.{rows_of}
use Rattle.metafile.specs.Append.{no_row, row_no}
use Rattle.metafile.specs.Calls.{parent_row}
use Rattle.metafile.specs.Ancestors.{depends_on, reaches}
use Rattle.laws.proofs.First.{test, and_both, both-and}
use Rattle.laws.proofs.Below.{any-true, any-cases}
use Rattle.laws.proofs.Closure.{way_step, way_on, way-least}
use Rattle.ancestor_laws.specs.Chain.{chain}

-- ---- chains over any step

module _ (step : ℕ → ℕ → Bool) where
  -- a chain to b, and one from b on
  pub chain-on : (a : ℕ) (xs : List ℕ) (b : ℕ) (ys : List ℕ) (d : ℕ) → chain step a xs b ≡ true → chain step b ys d ≡ true
      → chain step a (xs ++ b ∷ ys) d ≡ true
  unfolding chain
  chain-on a [] b ys d p q = both-and _ _ p q
  chain-on a (x ∷ xs) b ys d p q =
      let both = and_both (step a x) (chain step x xs b) p in
      both-and _ _ both.0 (chain-on x xs b ys d both.1 q)

  -- a chain is a way, however long, where every step leads below n
  pub chain-way : (n : ℕ) → ((a b : ℕ) → step a b ≡ true → b < n) → (a : ℕ) (xs : List ℕ) (b : ℕ)
      → chain step a xs b ≡ true → by_way step n a b ≡ true
  unfolding chain
  chain-way n inside a [] b p = way_step step n a b p
  chain-way n inside a (x ∷ xs) b p =
      let both = and_both (step a x) (chain step x xs b) p in
      way_on step n a x b (inside a x both.0) (way_step step n a x both.0) (chain-way n inside x xs b both.1)

  -- a way is made of steps
  pub way-chain : (n a b : ℕ) → by_way step n a b ≡ true → (xs : List ℕ) × (chain step a xs b ≡ true)
  unfolding chain
  way-chain n a b w =
      way-least step (λ x y. (xs : List ℕ) × (chain step x xs y ≡ true)) n
      (λ x y s. ([], s))
      (λ x y z h p q. (p.0 ++ y ∷ q.0, chain-on x p.0 y q.0 z p.1 q.1))
      n a b (omega arith) w

-- ---- dependencies

module _ (file : List ℕ) where
  -- the row past the last has no dependency
  past-none : (a : ℕ) → length (rows_of file) ≤ a → (row_no (rows_of file) a).dependencies ≡ 0
  unfolding row_no no_row
  past-none a h = ap (λ (r : Row). r.dependencies) (get_or-eq_default (rows_of file) no_row h)

  -- only a row has dependencies
  pub depends-inside : (a j : ℕ) → j < (row_no (rows_of file) a).dependencies → a < length (rows_of file)
  depends-inside a j h =
      test (ltb a (length (rows_of file)))
      (λ q. ltb-true a (length (rows_of file)) q)
      (λ q. absurd (omega (arith, past-none a (ltb-false a (length (rows_of file)) q))))

  -- b is a row, and the one that a dependency of row a names
  pub depends-exactly : (a b : ℕ)
      → depends_on file a b ≡ true
      ↔ ((b < length (rows_of file)) × ((j : ℕ) × (j < (row_no (rows_of file) a).dependencies) × (parent_row file a j ≡ b)))
  unfolding depends_on
  depends-exactly a b =
      let n : ℕ = length (rows_of file) in
      let d : ℕ = (row_no (rows_of file) a).dependencies in (
        λ e.
            let both = and_both (ltb b n) (any_below d (λ (j : ℕ). eqb (parent_row file a j) b)) e in
            (ltb-true b n both.0, any-cases _ d both.1 (λ j h q. (j, h, eqb-true (parent_row file a j) b q))),
        λ h.
            both-and _ _ (lt-ltb b n h.0)
            (any-true _ d h.1.0 h.1.1 (eq-eqb (parent_row file a h.1.0) b h.1.2)),
      )

  -- a dependency leads from a row to a row
  pub depends-rows : (a b : ℕ) → depends_on file a b ≡ true → (a < length (rows_of file)) × (b < length (rows_of file))
  depends-rows a b e = let h = (depends-exactly a b).0 e in (depends-inside a h.1.0 h.1.1, h.0)

  -- every dependency is reached
  pub reaches_step : (a b : ℕ) → depends_on file a b ≡ true → reaches file a b ≡ true
  unfolding reaches
  reaches_step a b s = way_step (depends_on file) (length (rows_of file)) a b s

  -- rows alone are reached, and from rows alone
  pub reaches-rows : (a b : ℕ) → reaches file a b ≡ true → (a < length (rows_of file)) × (b < length (rows_of file))
  unfolding reaches
  reaches-rows a b w =
      let n : ℕ = length (rows_of file) in
      way-least (depends_on file) (λ x y. (x < n) × (y < n)) n depends-rows (λ x y z h p q. (p.0, q.1)) n a b (omega arith) w

  -- what a reached row reaches is reached
  pub reaches-on : (a b d : ℕ) → reaches file a b ≡ true → reaches file b d ≡ true → reaches file a d ≡ true
  unfolding reaches
  reaches-on a b d v w = way_on (depends_on file) (length (rows_of file)) a b d (reaches-rows a b v).1 v w

  -- any relation that has every dependency and is closed in this way has all that is reached
  pub reaches-least : (R : ℕ → ℕ → Type 0) → ((a b : ℕ) → depends_on file a b ≡ true → R a b)
      → ((a b d : ℕ) → R a b → R b d → R a d) → (a b : ℕ) → reaches file a b ≡ true → R a b
  unfolding reaches
  reaches-least R one on a b w =
      way-least (depends_on file) R (length (rows_of file)) one (λ x y z h p q. on x y z p q) (length (rows_of file)) a b (omega arith) w

  -- where a row is reached, there is a chain of dependencies that leads to it
  pub reaches-chain : (a b : ℕ) → reaches file a b ≡ true → (xs : List ℕ) × (chain (depends_on file) a xs b ≡ true)
  unfolding reaches
  reaches-chain a b w = way-chain (depends_on file) (length (rows_of file)) a b w

  -- where a chain of dependencies leads to a row, however long, the row is reached
  pub chain-reaches : (a : ℕ) (xs : List ℕ) (b : ℕ) → chain (depends_on file) a xs b ≡ true → reaches file a b ≡ true
  unfolding reaches
  chain-reaches a xs b p =
      chain-way (depends_on file) (length (rows_of file)) (λ x y s. (depends-rows x y s).1) a xs b p
