-- Time offsets, "sign + or -, I2 hours to 23, I2 minutes to 59, N11 seconds below 60": the tests, and the value,
-- whose sign is put to it last ("minus zero is 0").
--     offset-tests                         the tests of an offset, as the code joins them
--     hours-le, minutes-le, seconds-lt     what the tests tell
--     minus-fits, value-minus, value-plus  the sign put to a value
--     offset-value                         the value, of hours, minutes and seconds that were read
-- Assumes nothing.
use Prim.Native.Nat.{ℕ, zero, suc, ◌+◌, ◌*◌, ◌^◌, ◌≤◌, ◌<◌}
use mathlib.Core.Bool.{Bool, true, false, cond, ◌&&◌, ◌||◌, or-false, and_assoc}
use mathlib.Core.Path.{◌≡◌, sym, ◌∙◌}
use mathlib.Core.List.{List, [], ◌∷◌}
use native.Mathlib.Omega.{arith}
use lib.Dec.{ltb, eqb}
use lib.IntN.{pos, neg_ℤ, ◌-ℤ◌, +ℤ_idl}
use lib.ListN.{length, get_or}
use mir.Syntax.{w64}
use mir.Val.{SFits, to_z, of_z}
use mir.ValLaws.{to_z_pos, to_z-of_z}
use borrow.Author.Tests.{ltb-true}
use Rattle.metafile.specs.Bytes.{bytes, part, member}
use Rattle.metafile.specs.Fields.{number, digits_to, is_decimal, second, decimal_units, is_offset, offset_units, offset_value}
use Rattle.laws.proofs.First.{and_both}
use Rattle.fields.proofs.Digits.{digits-to}
use Rattle.fields.proofs.Same.{first-is}

-- ---- the tests

abbrev Sign : List ℕ → Bool
Sign s = member (part 0 1 s) (bytes "+" ∷ bytes "-" ∷ [])

abbrev Hours : List ℕ → Bool
Hours s = digits_to 23 (part 1 2 s)

abbrev Minutes : List ℕ → Bool
Minutes s = digits_to 59 (part 3 2 s)

abbrev Below : List ℕ → Bool
Below v = ltb (decimal_units v) (60 * second)

abbrev pub Seconds : List ℕ → Bool
Seconds v = is_decimal v && ltb (decimal_units v) (60 * second)

sign-is : (s : List ℕ) → 0 < length s → eqb (get_or s 0 0) 43 || eqb (get_or s 0 0) 45 ≡ Sign s
unfolding member
sign-is s h = rw (first-is s 43 h, first-is s 45 h, or-false)

offset-is : (s : List ℕ) → is_offset s ≡ Sign s && Hours s && Minutes s && Seconds (part 5 11 s)
unfolding is_offset
offset-is s = and_assoc (Sign s && Hours s && Minutes s) (is_decimal (part 5 11 s)) (Below (part 5 11 s))

pub offset-tests : (s : List ℕ) (a b d : Bool) → 0 < length s
    → a ≡ digits_to 23 (part 1 2 s) → b ≡ digits_to 59 (part 3 2 s) → d ≡ Seconds (part 5 11 s)
    → (eqb (get_or s 0 0) 43 || eqb (get_or s 0 0) 45) && a && b && d ≡ is_offset s
offset-tests s a b d h p q r = rw (sign-is s h, p, q, r) (sym (offset-is s))

-- what they tell
module _ (s : List ℕ) (e : is_offset s ≡ true) where
  tested : Sign s && Hours s && Minutes s && Seconds (part 5 11 s) ≡ true
  tested = sym (offset-is s) ∙ e

  times : Sign s && Hours s && Minutes s ≡ true
  times = (and_both (Sign s && Hours s && Minutes s) (Seconds (part 5 11 s)) tested).0

  pub hours-le : number (part 1 2 s) ≤ 23
  hours-le = digits-to 23 (part 1 2 s) (and_both (Sign s) (Hours s) (and_both (Sign s && Hours s) (Minutes s) times).0).1

  pub minutes-le : number (part 3 2 s) ≤ 59
  minutes-le = digits-to 59 (part 3 2 s) (and_both (Sign s && Hours s) (Minutes s) times).1

  pub seconds-lt : decimal_units (part 5 11 s) < 60 * second
  seconds-lt =
      ltb-true (decimal_units (part 5 11 s)) (60 * second)
      (and_both (is_decimal (part 5 11 s)) (Below (part 5 11 s))
      (and_both (Sign s && Hours s && Minutes s) (Seconds (part 5 11 s)) tested).1).1

-- ---- the sign put to a value

neg-fits : (n : ℕ) → n < 2 ^ 63 → SFits w64 (neg_ℤ (pos n))
neg-fits zero h = record { sfits = h }
neg-fits (suc n) h = record { sfits = omega arith }

module _ (n : ℕ) (h : n < 2 ^ 63) where
  minus_is : pos 0 -ℤ to_z w64 n ≡ neg_ℤ (pos n)
  minus_is = rw (to_z_pos w64 n h) (+ℤ_idl (neg_ℤ (pos n)))

  pub minus-fits : SFits w64 (pos 0 -ℤ to_z w64 n)
  minus-fits = rw minus_is (neg-fits n h)

  pub value-minus : (b : Bool) → b ≡ true → to_z w64 (of_z w64 (pos 0 -ℤ to_z w64 n)) ≡ cond b (neg_ℤ (pos n)) (pos n)
  value-minus b e = rw e (to_z-of_z w64 (pos 0 -ℤ to_z w64 n) minus-fits ∙ minus_is)

  pub value-plus : (b : Bool) → b ≡ false → to_z w64 n ≡ cond b (neg_ℤ (pos n)) (pos n)
  value-plus b e = rw e (to_z_pos w64 n h)

-- ---- the value

pub offset-value : (s : List ℕ) (h m x : ℕ) → 0 < length s
    → h ≡ number (part 1 2 s) → m ≡ number (part 3 2 s) → x ≡ decimal_units (part 5 11 s)
    → let n : ℕ = (h * 3600 + m * 60) * 10000000000 + x in
    cond (eqb (get_or s 0 0) 45) (neg_ℤ (pos n)) (pos n) ≡ offset_value s
unfolding offset_value offset_units second
offset-value s h m x l eh em ex = rw (first-is s 45 l, eh, em, ex)
