-- The days of a month, for dates ("Gregorian").
--     february-fits                  28, and one more in a leap year
--     month-none, month-le           no such month, as the code tests it, and at most the twelfth where there is one
--     month-february, month-other    the days of the second month, and of the others
-- Assumes nothing.
use Prim.Native.Nat.{ℕ, zero, suc, ◌+◌, ◌/◌, ◌%◌, ◌≤◌}
use mathlib.Core.Bool.{Bool, true, false, cond, ◌||◌, true≢false}
use mathlib.Core.Path.{◌≡◌, refl, sym, ap, ◌∙◌}
use mathlib.Core.List.{List, ◌∷◌}
use native.Mathlib.Omega.{arith}
use lib.Dec.{eqb, ltb}
use lib.ListN.{get_or-eq_default}
use mir.Syntax.{w64}
use mir.Val.{Fits, bool_byte}
use borrow.Author.Tests.{eqb-true, ltb-true, ltb-false}
use Rattle.metafile.specs.Fields.{leap, month_days}
use Rattle.laws.proofs.First.{test}
use Rattle.fields.proofs.Tables.{table, table_at}

-- the days of a month that is not the second, and of all months from the first on, x in the second, none before
days : ℕ → ℕ
days m = 30 + (m + m / 8) % 2

months : ℕ → List ℕ
months x = 0 ∷ 31 ∷ x ∷ table days 3 10

february : (b : Bool) → 28 + bool_byte b ≡ cond b 29 28
february true = refl
february false = refl

pub february-fits : (b : Bool) → Fits w64 (28 + bool_byte b)
february-fits true = omega arith
february-fits false = omega arith

pub month-none : (y m : ℕ) → (eqb m 0 || ltb 12 m) ≡ true → 0 ≡ month_days y m
unfolding month_days months table days
month-none y m e =
    test (eqb m 0)
    (λ q. rw (eqb-true m 0 q))
    (λ q. sym (get_or-eq_default (months (cond (leap y) 29 28)) 0 (ltb-true 12 m (rw q at e))))

pub month-le : (m : ℕ) → (eqb m 0 || ltb 12 m) ≡ false → m ≤ 12
month-le m e = test (eqb m 0) (λ q. absurd (true≢false (rw q at e))) (λ q. ltb-false 12 m (rw q at e))

pub month-february : (y m : ℕ) (b : Bool) → m ≡ 2 → b ≡ leap y → 28 + bool_byte b ≡ month_days y m
unfolding month_days
month-february y m b h e = rw (h, e) (february (leap y))

pub month-other : (y m : ℕ) → (eqb m 0 || ltb 12 m) ≡ false → (m ≡ 2 → ⊥) → 30 + (m + m / 8) % 2 ≡ month_days y m
unfolding month_days table days
month-other y zero e h = absurd (true≢false e)
month-other y (suc zero) e h = refl
month-other y (suc (suc zero)) e h = absurd (h refl)
month-other y (suc (suc (suc k))) e h =
    let n : suc (suc (suc k)) ≡ 3 + k = omega arith in
    ap days n ∙ sym (table_at days 3 10 k (omega (arith, month-le (suc (suc (suc k))) e)))
