-- Numbers without leading zeros.
--     decimal-small decimal-more          a number of one digit; one of more: the digits of its tenth, and the last digit
--     decimal-few decimal-short           at most 20 digits; a number below 10 ^ k has at most k
--     decimal-digits                      the number in as many digits as it has
--     decimal-all-digits number-decimal   each byte is a digit; the number is read back
--     decimal-end                         the place behind a number with the byte behind it
-- Assumes nothing.
use Prim.Native.Nat.{ℕ, zero, suc, ◌+◌, ◌-◌, ◌/◌, ◌%◌, ◌^◌, ◌≤◌, ◌<◌}
use mathlib.Core.Bool.{true}
use mathlib.Core.Path.{◌≡◌, refl, sym, ap, ◌∙◌}
use mathlib.Core.List.{List, [], ◌∷◌, ◌++◌}
use native.Mathlib.Omega.{arith}
use native.Mathlib.Nat.{one-le-pow}
use lib.Dec.{ltb, eqb}
use lib.ListN.{length, drop, length-append}
use lib.Seq.{drop-append-le, drop-length}
use borrow.Author.Tests.{ltb-true, ltb-false, eqb-true, ne_eqb}
use Rattle.metafile.specs.Bytes.{all}
use Rattle.metafile.specs.Fields.{is_digit, number, number_from, digits_of}
use Rattle.metafile.specs.Listing.{unpadded, decimal}
use Rattle.laws.proofs.First.{test}
use Rattle.laws.proofs.Digits.{number-digits_of, length-digits_of, digits-digits_of}
use Rattle.text.specs.Put.{Put}

-- ---- leading zeros

zero-dropped : (v : List ℕ) → 0 < length v → unpadded (48 ∷ v) ≡ unpadded v
unfolding unpadded
zero-dropped [] h = absurd (omega arith)
zero-dropped (x ∷ xs) h = refl

-- a digit behind a number that is not 0
unpadded-append : (v : List ℕ) (d : ℕ) → 0 < number v → unpadded (v ++ d ∷ []) ≡ unpadded v ++ d ∷ []
unfolding unpadded number number_from
unpadded-append [] d h = absurd (omega arith)
unpadded-append (x ∷ []) d h = rw (ne_eqb x 48 (λ e. omega arith))
unpadded-append (x ∷ y ∷ ys) d h = test (eqb x 48) (λ q. rw q (unpadded-append (y ∷ ys) d (rw (eqb-true x 48 q) at h))) (λ q. rw q)

unpadded-number : (v : List ℕ) → number (unpadded v) ≡ number v
unfolding unpadded number number_from
unpadded-number [] = refl
unpadded-number (x ∷ []) = refl
unpadded-number (x ∷ y ∷ ys) = test (eqb x 48) (λ q. rw (q, eqb-true x 48 q) (unpadded-number (y ∷ ys))) (λ q. rw q)

unpadded-few : (v : List ℕ) → length (unpadded v) ≤ length v
unfolding unpadded
unpadded-few [] = omega arith
unpadded-few (x ∷ []) = omega arith
unpadded-few (x ∷ y ∷ ys) = test (eqb x 48) (λ q. rw q (omega (arith, unpadded-few (y ∷ ys)))) (λ q. rw q (omega arith))

-- what is left is the end of the bytes
unpadded-end : (v : List ℕ) (k : ℕ) → length v ≡ k + length (unpadded v) → drop k v ≡ unpadded v
unfolding unpadded
unpadded-end [] zero e = refl
unpadded-end [] (suc k) e = absurd (omega arith)
unpadded-end (x ∷ []) zero e = refl
unpadded-end (x ∷ []) (suc k) e = absurd (omega arith)
unpadded-end (x ∷ y ∷ ys) zero e = test (eqb x 48) (λ q. absurd (omega (arith, rw q at e, unpadded-few (y ∷ ys)))) (λ q. rw q)
unpadded-end (x ∷ y ∷ ys) (suc k) e =
    test (eqb x 48) (λ q. rw q (unpadded-end (y ∷ ys) k (omega (arith, rw q at e)))) (λ q. absurd (omega (arith, rw q at e)))

-- ---- digits

-- the last n of m digits
digits-end : (k m n x : ℕ) → m ≡ k + n → drop k (digits_of m x) ≡ digits_of n x
unfolding digits_of
digits-end k m zero x e =
    let whole : k ≡ length (digits_of m x) = omega (arith, length-digits_of m x) in
    rw whole (drop-length (digits_of m x))
digits-end k zero (suc n) x e = absurd (omega arith)
digits-end k (suc m) (suc n) x e =
    let fits : k ≤ length (digits_of m (x / 10)) = omega (arith, length-digits_of m (x / 10)) in
    drop-append-le k (digits_of m (x / 10)) ((48 + x % 10) ∷ []) fits ∙ rw (digits-end k m n (x / 10) (omega arith))

digits-zero : (n x : ℕ) → x < 10 ^ n → digits_of (suc n) x ≡ 48 ∷ digits_of n x
unfolding digits_of
digits-zero zero x h = let z : x ≡ 0 = omega arith in rw z
digits-zero (suc n) x h = rw (digits-zero n (x / 10) (omega arith))

module _ (n x : ℕ) where
  narrower : 0 < n → x < 10 ^ n → unpadded (digits_of (suc n) x) ≡ unpadded (digits_of n x)
  narrower z h = rw (digits-zero n x h) (zero-dropped (digits_of n x) (omega (arith, length-digits_of n x)))

  more-digits : 10 ≤ x → x < 10 ^ suc n → unpadded (digits_of (suc n) x) ≡ unpadded (digits_of n (x / 10)) ++ (48 + x % 10) ∷ []
  unfolding digits_of
  more-digits h k = unpadded-append (digits_of n (x / 10)) (48 + x % 10) (omega (arith, number-digits_of n (x / 10) (omega arith)))

one-digit : (n x : ℕ) → x < 10 → unpadded (digits_of (suc n) x) ≡ digits_of 1 x
unfolding unpadded digits_of
one-digit zero x h = refl
one-digit (suc n) x h = narrower (suc n) x (omega arith) (omega (arith, one-le-pow n 10 (omega arith))) ∙ one-digit n x h

-- ---- a number

pub decimal-small : (x : ℕ) → x < 10 → decimal x ≡ digits_of 1 x
unfolding decimal
decimal-small x h = one-digit 19 x h

pub decimal-more : (x : ℕ) → 10 ≤ x → x < 10 ^ 20 → decimal x ≡ decimal (x / 10) ++ (48 + x % 10) ∷ []
unfolding decimal
decimal-more x h k = more-digits 19 x h k ∙ ap (λ (v : List ℕ). v ++ (48 + x % 10) ∷ []) (sym (narrower 19 (x / 10) (omega arith) (omega arith)))

one-long : (x : ℕ) → x < 10 → length (decimal x) ≡ 1
one-long x h = ap length (decimal-small x h) ∙ length-digits_of 1 x

pub decimal-short : (k x : ℕ) → x < 10 ^ suc k → x < 10 ^ 20 → length (decimal x) ≤ suc k
decimal-short zero x h small = omega (arith, one-long x (omega arith))
decimal-short (suc k) x h small =
    test (ltb x 10)
    (λ q. omega (arith, one-long x (ltb-true x 10 q)))
    (λ q.
    let more = decimal-more x (ltb-false x 10 q) small in
    let rest = decimal-short k (x / 10) (omega arith) (omega arith) in
    omega (arith, ap length more, length-append (decimal (x / 10)) ((48 + x % 10) ∷ []), rest))

module _ (x : ℕ) where
  pub decimal-few : length (decimal x) ≤ 20
  unfolding decimal
  decimal-few = omega (arith, unpadded-few (digits_of 20 x), length-digits_of 20 x)

  pub decimal-digits : decimal x ≡ digits_of (length (decimal x)) x
  unfolding decimal
  decimal-digits =
      let v : List ℕ = digits_of 20 x in
      let k : ℕ = 20 - length (unpadded v) in
      let both : 20 ≡ k + length (unpadded v) = omega (arith, unpadded-few v, length-digits_of 20 x) in
      sym (unpadded-end v k (length-digits_of 20 x ∙ both)) ∙ digits-end k 20 (length (unpadded v)) x both

  pub decimal-all-digits : all is_digit (decimal x) ≡ true
  decimal-all-digits = rw decimal-digits (digits-digits_of (length (decimal x)) x)

  pub number-decimal : x < 10 ^ 20 → number (decimal x) ≡ x
  unfolding decimal
  number-decimal h = unpadded-number (digits_of 20 x) ∙ number-digits_of 20 x h

  pub decimal-end : (w : ℕ) {b c : List ℕ} {at r : ℕ} → Put (decimal x ++ w ∷ []) at b r c → r ≤ at + 21
  decimal-end w p = omega (arith, simp length-append at p.end_is, decimal-few)
