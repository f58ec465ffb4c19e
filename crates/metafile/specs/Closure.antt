-- What is reached from a row in steps, for any steps between rows: the transitive closure, built row by row. Assumes nothing.
use Rattle.std.specs.Prelude.{ℕ, zero, suc, Bool, ◌&&◌, ◌||◌, eqb}
use Rattle.metafile.specs.Below.{any_below}

-- b is reached from a in one or more steps, by way of rows below c alone
unfoldable pub by_way : (ℕ → ℕ → Bool) → ℕ → ℕ → ℕ → Bool
by_way step zero a b = step a b
by_way step (suc c) a b = by_way step c a b || (by_way step c a c && by_way step c c b)

-- b is a, or is reached from it
unfoldable pub within : (ℕ → ℕ → Bool) → ℕ → ℕ → ℕ → Bool
within step n a b = eqb b a || by_way step n a b

-- "a chain from k comes back to any chunk on it": a, or a row reached from it, reaches itself
unfoldable pub circular_from : (ℕ → ℕ → Bool) → ℕ → ℕ → Bool
circular_from step n a = any_below n (λ (i : ℕ). within step n a i && by_way step n i i)
