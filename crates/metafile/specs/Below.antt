-- What is asked of the numbers below n, 0 first, and what they give. Assumes nothing.
use Rattle.std.specs.Prelude.{ℕ, zero, suc, ◌+◌, Bool, false, ◌||◌, List, [], ◌++◌}
use Rattle.metafile.specs.Bytes.{◌⊳◌}

-- one of them passes the test
unfoldable pub any_below : ℕ → (ℕ → Bool) → Bool
any_below zero p = false
any_below (suc n) p = any_below n p || p n

-- their lists, one behind the other
unfoldable pub join_below : {A : Type 0} → ℕ → (ℕ → List A) → List A
join_below zero f = []
join_below (suc n) f = join_below n f ++ f n

-- their numbers, added up
unfoldable pub sum_below : ℕ → (ℕ → ℕ) → ℕ
sum_below zero f = 0
sum_below (suc n) f = sum_below n f + f n

-- the first of their faults
unfoldable pub fault_below : ℕ → (ℕ → ℕ) → ℕ
fault_below zero p = 0
fault_below (suc n) p = fault_below n p ⊳ p n
