-- Bytes compared.
--     first-is                one byte, against a text of one byte
-- Assumes nothing.
use Prim.Native.Nat.{ℕ, ◌<◌}
use mathlib.Core.Bool.{and-true}
use mathlib.Core.Path.{◌≡◌}
use mathlib.Core.List.{List, [], ◌∷◌}
use native.Mathlib.Omega.{arith}
use lib.Dec.{eqb}
use lib.ListN.{length, get_or}
use Rattle.metafile.specs.Bytes.{part, same}

pub first-is : (s : List ℕ) (x : ℕ) → 0 < length s → same (part 0 1 s) (x ∷ []) ≡ eqb (get_or s 0 0) x
unfolding same
first-is [] x h = absurd (omega arith)
first-is (y ∷ s) x h = and-true (eqb y x)
