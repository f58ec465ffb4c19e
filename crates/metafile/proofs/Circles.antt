-- Circles of parents, by computing: "a chain from k comes back to any chunk on it". An edit of the definitions fails here.
-- Assumes nothing.
--     Circles   the row's own, one that it leads to, one elsewhere; two ways to one row are none
use Prim.Native.Nat.{ℕ}
use mathlib.Core.Bool.{true, false}
use mathlib.Core.Path.{◌≡◌, refl}
use mathlib.Core.List.{List, [], ◌∷◌}
use Rattle.metafile.specs.Closure.{circular_from}
use Rattle.metafile.proofs.Computed.{computed}
use Rattle.metafile.proofs.Ways.{goes_to}

-- row 0 → row 1, which names itself; row 2 has no parents
unfoldable pub leading : List (List ℕ)
leading = (1 ∷ []) ∷ (1 ∷ []) ∷ [] ∷ []

-- row 3 → rows 1 and 2, each of them → row 0
unfoldable pub diamond : List (List ℕ)
diamond = [] ∷ (0 ∷ []) ∷ (0 ∷ []) ∷ (1 ∷ 2 ∷ []) ∷ []

pub record Circles : Type 0 where
  pub own : circular_from (goes_to leading) 3 1 ≡ true
  pub led-to : circular_from (goes_to leading) 3 0 ≡ true
  pub elsewhere : circular_from (goes_to leading) 3 2 ≡ false
  pub two_ways : circular_from (goes_to diamond) 4 3 ≡ false

pub circles : Circles
unfolding computed goes_to leading diamond
circles = record { own = refl; led-to = refl; elsewhere = refl; two_ways = refl }
