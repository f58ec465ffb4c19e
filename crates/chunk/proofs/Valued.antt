-- Counts at their places.
--     count-behind   a count whose first eight bytes count nothing is that of the bytes behind them
-- Assumes nothing.
use Prim.Native.Nat.{ℕ, ◌+◌, ◌-◌, ◌<◌}
use mathlib.Core.Bool.{true}
use mathlib.Core.Path.{◌≡◌, sym, ap, ◌∙◌}
use mathlib.Core.List.{List, ◌++◌}
use native.Mathlib.Omega.{arith}
use lib.ListN.{take, drop}
use lib.Seq.{take-add, drop-drop}
use Rattle.metafile.specs.Bytes.{part, is_zero}
use Rattle.metafile.specs.Fields.{number, count_value}
use Rattle.laws.proofs.First.{is_zero-zero}
use Rattle.laws.proofs.Digits.{count-number}
use Rattle.fields.proofs.Digits.{number_append}

-- in front of y, what counts nothing
nothing-before : (x y : List ℕ) → is_zero (count_value x) ≡ true → count_value (x ++ y) ≡ count_value y
nothing-before x y z =
    let none : number x ≡ 0 = sym (count-number x) ∙ is_zero-zero _ z in
    let sum : number (x ++ y) ≡ number y = number_append x y ∙ rw none (omega arith) in
    count-number (x ++ y) ∙ sum ∙ sym (count-number y)

pub count-behind : (s : List ℕ) (at n : ℕ) → 8 < n → is_zero (count_value (take (at + 8 - at) (drop at s))) ≡ true
    → count_value (take (at + n - (at + 8)) (drop (at + 8) s)) ≡ count_value (part at n s)
count-behind s at n h z =
    let a : at + 8 - at ≡ 8 = omega arith in
    let b : at + n - (at + 8) ≡ n - 8 = omega arith in
    let k : 8 + (n - 8) ≡ n = omega arith in
    let x = take 8 (drop at s) in
    let y = take (n - 8) (drop (at + 8) s) in
    let whole : take n (drop at s) ≡ x ++ y
    = ap (λ (i : ℕ). take i (drop at s)) (sym k)
    ∙ take-add 8 (n - 8) (drop at s)
    ∙ ap (λ (l : List ℕ). x ++ take (n - 8) l) (drop-drop 8 at s) in
    rw b (sym (ap count_value whole ∙ nothing-before x y (rw a at z)))
