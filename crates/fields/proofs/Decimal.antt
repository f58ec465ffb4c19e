-- N11, "spaces, digits with at most one point and at least one digit, spaces": its parts, and its value in units of
-- 10^-10 second. Below 60 seconds is decided by the digits before the point, so no number is scaled before it is small.
--     point-none, point-there, point-other   passing a point: no byte, a point first, another byte first
--     before-le                              the digits before the point are no more than all bytes
--     behind-short                           the digits behind it are fewer
--     seconds-below                          below 60 is a matter of the digits before the point
--     powers-at                              the table of powers
--     whole_le, decimal-value                the value as the code adds it up
--     before-.., behind-.., parts-few        the parts as the code passes over them, each from the end of the one before
--     seconds-formed                         the test as the code joins it
-- Assumes nothing.
use Prim.Native.Nat.{ℕ, suc, ◌+◌, ◌-◌, ◌*◌, ◌^◌, ◌≤◌, ◌<◌}
use mathlib.Core.Bool.{Bool, ◌&&◌}
use mathlib.Core.Path.{◌≡◌, refl, sym, ap, ◌∙◌}
use mathlib.Core.List.{List, [], ◌∷◌, ◌++◌}
use native.Mathlib.Omega.{arith}
use native.Mathlib.Nat.{mul-lt-mul_of_pos_right, one-le-pow}
use lib.Dec.{leb, ltb, eqb}
use lib.ListN.{length, take, drop, get_or, length-append}
use lib.Pow.{pow-add}
use lib.Seq.{take-length}
use borrow.Author.Tests.{eq-eqb, ne_eqb, ltb-true, ltb-false, lt-ltb, le-ltb}
use Rattle.metafile.specs.Bytes.{all}
use Rattle.metafile.specs.Fields.{is_digit, is_space, number, take_while, drop_while, point_passed, digits_before, point_on, digits_behind, spaces_behind, is_decimal, second, decimal_units}
use Rattle.laws.proofs.First.{test}
use Rattle.fields.proofs.Prefix.{within, spaces-passed, prefix-is, rest-is, prefix-le, rest_le, rest-stops}
use Rattle.fields.proofs.Digits.{number_append, digits-below}
use Rattle.fields.proofs.Tables.{table, table_at}

-- ---- the point

pub point-none : (s : List ℕ) → length s ≡ 0 → s ≡ point_passed s
unfolding point_passed
point-none [] e = refl
point-none (x ∷ s) e = absurd (omega arith)

pub point-there : (s : List ℕ) → (length s ≡ 0 → ⊥) → get_or s 0 0 ≡ 46 → take (length s - 1) (drop 1 s) ≡ point_passed s
unfolding point_passed
point-there [] h e = absurd (omega arith)
point-there (x ∷ s) h e =
    let n : suc (length s) - 1 ≡ length s = omega arith in
    rw (n, eq-eqb x 46 e) (take-length s)

pub point-other : (s : List ℕ) → (get_or s 0 0 ≡ 46 → ⊥) → s ≡ point_passed s
unfolding point_passed
point-other [] h = refl
point-other (x ∷ s) h = rw (ne_eqb x 46 h)

-- ---- lengths

pub before-le : (v : List ℕ) → length (digits_before v) ≤ length v
unfolding digits_before
before-le v = omega (arith, prefix-le is_digit (drop_while is_space v), rest_le is_space v)

-- what stands behind the digits begins with a point, or no digit follows at once
behind-of : (s u : List ℕ) → u ≡ drop_while is_digit s → length (take_while is_digit (point_passed u)) ≤ length u - 1
unfolding point_passed
behind-of s [] e = prefix-le is_digit []
behind-of s (x ∷ u) e =
    test (eqb x 46)
    (λ q. rw q (omega (arith, prefix-le is_digit u)))
    (λ q. rw (q, ap (take_while is_digit) e ∙ rest-stops is_digit s) (omega arith))

pub behind-short : (v : List ℕ) → length (digits_behind v) ≤ length v - 1
unfolding digits_behind point_on
behind-short v =
    let u = drop_while is_space v in
    omega (arith, behind-of u (drop_while is_digit u) refl, rest_le is_digit u, rest_le is_space v)

behind-below : (v : List ℕ) → number (digits_behind v) < 10 ^ length (digits_behind v)
unfolding digits_behind
behind-below v = digits-below (point_passed (point_on v))

-- ---- the value

module _ (v : List ℕ) (l : length v ≡ 11) where
  scaled : 10 ^ length (digits_behind v) * 10 ^ (10 - length (digits_behind v)) ≡ 10 ^ 10
  scaled =
      let f = length (digits_behind v) in
      let h : f + (10 - f) ≡ 10 = omega (arith, behind-short v) in
      sym (pow-add 10 f (10 - f)) ∙ ap (λ (k : ℕ). 10 ^ k) h

  decimal-units : number (digits_before v) * second + number (digits_behind v) * 10 ^ (10 - length (digits_behind v)) ≡ decimal_units v
  unfolding decimal_units second
  decimal-units =
      let f = length (digits_behind v) in
      let b = number (digits_before v) in
      let h : b * (10 ^ f * 10 ^ (10 - f)) ≡ b * 10 ^ 10 = ap (λ (k : ℕ). b * k) scaled in
      rw number_append (omega (arith, h))

  pub seconds-below : ltb (number (digits_before v)) 60 ≡ ltb (decimal_units v) (60 * second)
  unfolding second
  seconds-below =
      let f = length (digits_behind v) in
      let b = number (digits_before v) in
      let q : 0 < 10 ^ (10 - f) = one-le-pow (10 - f) 10 (omega arith) in
      let h : number (digits_behind v) * 10 ^ (10 - f) < 10 ^ 10 = rw scaled at (mul-lt-mul_of_pos_right (behind-below v) q) in
      test (ltb b 60)
      (λ e. rw e (sym (lt-ltb (decimal_units v) (60 * 10 ^ 10) (omega (arith, ltb-true b 60 e, decimal-units)))))
      (λ e. rw e (sym (le-ltb (decimal_units v) (60 * 10 ^ 10) (omega (arith, ltb-false b 60 e, decimal-units)))))

-- ---- the table of powers

abbrev pub powers : List ℕ
powers = 1 ∷ 10 ∷ 100 ∷ 1000 ∷ 10000 ∷ 100000 ∷ 1000000 ∷ 10000000 ∷ 100000000 ∷ 1000000000 ∷ 10000000000 ∷ []

pub powers-at : (k : ℕ) → k ≤ 10 → get_or powers k 0 ≡ 10 ^ k
unfolding table
powers-at k h =
    let e : 0 + k ≡ k = omega arith in
    table_at (λ n. 10 ^ n) 0 11 k (omega arith) ∙ ap (λ (n : ℕ). 10 ^ n) e

-- ---- as the code adds it up

module _ (v : List ℕ) (l : length v ≡ 11) (x : ℕ) (e : x ≡ number (digits_before v)) where
  pub whole_le : x * 10000000000 ≤ decimal_units v
  unfolding second
  whole_le = rw e (omega (arith, decimal-units v l))

  pub decimal-value : (y : ℕ) (t : List ℕ) → t ≡ digits_behind v → y ≡ number t
      → x * 10000000000 + y * get_or powers (10 - length t) 0 ≡ decimal_units v
  unfolding second
  decimal-value y t q r = rw (r, powers-at (10 - length t) (omega arith), q, e) (decimal-units v l)

-- ---- as the code passes over the parts: t behind the spaces, n digits, u behind the point, k digits

module _ (v t : List ℕ) (n : ℕ) (p : t ≡ drop_while (within 32 32) v) (q : n ≡ length (take_while (within 48 57) t)) where
  pub before-taken : take n t ≡ digits_before v
  unfolding digits_before is_digit
  before-taken = prefix-is (within 48 57) t n q ∙ ap (take_while (within 48 57)) (p ∙ spaces-passed v)

  pub before-count : n ≡ length (digits_before v)
  unfolding digits_before is_digit
  before-count = q ∙ ap (λ (l : List ℕ). length (take_while (within 48 57) l)) (p ∙ spaces-passed v)

  module _ (u : List ℕ) (r : u ≡ point_passed (take (length t - n) (drop n t))) where
    rest-passed : u ≡ point_passed (point_on v)
    unfolding point_on is_digit
    rest-passed = r ∙ ap point_passed (rest-is (within 48 57) t n q ∙ ap (drop_while (within 48 57)) (p ∙ spaces-passed v))

    pub behind-taken : take_while is_digit u ≡ digits_behind v
    unfolding digits_behind
    behind-taken = ap (take_while is_digit) rest-passed

    module _ (k : ℕ) (w : k ≡ length (take_while (within 48 57) u)) where
      pub behind-count : k ≡ length (digits_behind v)
      unfolding is_digit
      behind-count = w ∙ ap length behind-taken

      pub parts-few : n + k ≤ length v + length v
      parts-few = omega (arith, before-count, behind-count, before-le v, behind-short v)

      spaces-left : take (length u - k) (drop k u) ≡ spaces_behind v
      unfolding spaces_behind is_digit
      spaces-left = rest-is (within 48 57) u k w ∙ ap (drop_while (within 48 57)) rest-passed

      pub seconds-formed : length v ≡ 11 → (b : Bool) → b ≡ all is_space (take (length u - k) (drop k u)) → (x : ℕ) → x ≡ number (take n t)
          → ((leb 1 (n + k) && b) && ltb x 60) ≡ (is_decimal v && ltb (decimal_units v) (60 * second))
      unfolding is_decimal
      seconds-formed l b e x f =
          let some : n + k ≡ length (digits_before v ++ digits_behind v)
          = omega (arith, before-count, behind-count, length-append (digits_before v) (digits_behind v)) in
          let less : ltb x 60 ≡ ltb (decimal_units v) (60 * second) = ap (λ (y : ℕ). ltb y 60) (f ∙ ap number before-taken) ∙ seconds-below v l in
          rw (some, e ∙ ap (all is_space) spaces-left, less)
