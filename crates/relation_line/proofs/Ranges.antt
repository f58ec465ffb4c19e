-- The numbers below n as a list, which a chain over 0..n yields.
--     range-more   one number more
--     any-range    a test of one of them
-- Assumes nothing.
use Prim.Native.Nat.{ℕ, zero, suc, ◌+◌}
use mathlib.Core.Bool.{Bool, false, ◌||◌}
use mathlib.Core.Path.{◌≡◌, refl, ap, ◌∙◌}
use mathlib.Core.List.{List, [], ◌∷◌, ◌++◌}
use native.Mathlib.Nat.{zero-add}
use native.Mathlib.Omega.{arith}
use Rattle.std.specs.List.{range_with_len, list_any}
use Rattle.std.proofs.lemmas.List.Folds.{list_any-append}
use Rattle.metafile.specs.Below.{any_below}
use Rattle.laws.proofs.First.{test}

pub range-more : (a n : ℕ) → range_with_len a (suc n) ≡ range_with_len a n ++ (a + n) ∷ []
range-more a zero = let none : a + 0 ≡ a = omega arith in rw none
range-more a (suc n) =
    let next : a + 1 + n ≡ a + suc n = omega arith in
    ap (λ (xs : List ℕ). a ∷ xs) (rw next at (range-more (a + 1) n))

or-false-right : (b : Bool) → (b || false) ≡ b
or-false-right b = test b (λ q. rw q) (λ q. rw q)

pub any-range : (p : ℕ → Bool) (n : ℕ) → list_any p (range_with_len 0 n) ≡ any_below n p
unfolding any_below
any-range p zero = refl
any-range p (suc n) =
    ap (list_any p) (range-more 0 n ∙ rw (zero-add n))
    ∙ list_any-append p (range_with_len 0 n) (n ∷ [])
    ∙ rw (any-range p n, or-false-right (p n))
