-- A chain of steps from row to row, and a list of row numbers that rises. Assumes nothing.
use Rattle.std.specs.Prelude.{ℕ, Bool, true, ◌&&◌, List, [], ◌∷◌, ltb}

-- a goes by the rows of the list, one after the other, to b; by none: in one step
unfoldable pub chain : (ℕ → ℕ → Bool) → ℕ → List ℕ → ℕ → Bool
chain step a [] b = step a b
chain step a (x ∷ xs) b = step a x && chain step x xs b

-- each is below the next
unfoldable pub rising : List ℕ → Bool
rising [] = true
rising (x ∷ []) = true
rising (x ∷ y ∷ ys) = ltb x y && rising (y ∷ ys)
