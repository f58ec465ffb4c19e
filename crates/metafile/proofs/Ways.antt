-- What is reached in steps, by computing, where the parents of each row are given. An edit of the definitions fails here.
-- Assumes nothing.
--     goes_to   the step from a row to each of its parents
--     Ways     one step, two steps, by way of an earlier or a later row, and what isn't reached
use Prim.Native.Nat.{ℕ}
use mathlib.Core.Bool.{Bool, true, false}
use mathlib.Core.Path.{◌≡◌, refl}
use mathlib.Core.List.{List, [], ◌∷◌}
use lib.ListN.{get_or}
use Rattle.metafile.specs.Append.{is_in}
use Rattle.metafile.specs.Closure.{by_way}
use Rattle.metafile.proofs.Computed.{computed}

-- row b is among the parents of row a; a list of parents for each row, row 0 first
unfoldable pub goes_to : List (List ℕ) → ℕ → ℕ → Bool
goes_to parents a b = is_in b (get_or parents a [])

-- row 0 → row 1 → row 2
unfoldable pub in_order : List (List ℕ)
in_order = (1 ∷ []) ∷ (2 ∷ []) ∷ [] ∷ []

-- row 0 → row 2 → row 1
unfoldable pub out_of_order : List (List ℕ)
out_of_order = (2 ∷ []) ∷ [] ∷ (1 ∷ []) ∷ []

pub record Ways : Type 0 where
  pub one-step : by_way (goes_to in_order) 3 0 1 ≡ true
  pub two_steps : by_way (goes_to in_order) 3 0 2 ≡ true
  pub by-later : by_way (goes_to out_of_order) 3 0 1 ≡ true
  pub not_back : by_way (goes_to in_order) 3 2 0 ≡ false
  -- "in one or more steps"
  pub not_own : by_way (goes_to in_order) 3 0 0 ≡ false
  -- by way of rows below 1 alone
  pub not-by-1 : by_way (goes_to in_order) 1 0 2 ≡ false

pub ways : Ways
unfolding computed goes_to in_order out_of_order
ways =
    record { one-step = refl; two_steps = refl; by-later = refl; not_back = refl; not_own = refl; not-by-1 = refl }
