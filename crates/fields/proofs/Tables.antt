-- Tables: a function's values, one behind the other.
--     table f i n    n values of f, from i on
--     table_at       an entry
-- Assumes nothing.
use Prim.Native.Nat.{ℕ, zero, suc, ◌+◌, ◌<◌}
use mathlib.Core.Path.{◌≡◌, ap, ◌∙◌}
use mathlib.Core.List.{List, [], ◌∷◌}
use native.Mathlib.Omega.{arith}
use lib.ListN.{get_or}

unfoldable pub table : (ℕ → ℕ) → ℕ → ℕ → List ℕ
table f i zero = []
table f i (suc n) = f i ∷ table f (suc i) n

pub table_at : (f : ℕ → ℕ) (i n k : ℕ) → k < n → get_or (table f i n) k 0 ≡ f (i + k)
unfolding table
table_at f i zero k h = absurd (omega arith)
table_at f i (suc n) zero h = ap f (omega arith)
table_at f i (suc n) (suc k) h =
    let e : suc i + k ≡ i + suc k = omega arith in
    table_at f (suc i) n k (omega arith) ∙ ap f e
