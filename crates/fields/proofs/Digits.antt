-- Numbers in digits ("a number field In is n digits 0 to 9"), total on bytes: a byte counts what it is above 48, at
-- most 207.
--     Small p x                 x is at most what n bytes come to, where p is 10^n
--     small-more, small-fits    with one byte more; of at most 12 it fits 64 bits
--     power_le                  the power before the twelfth byte
--     number_append             the number of two runs of bytes, one behind the other
--     power_at, number-last     a loop from the last byte on: the power, and one byte less before what was passed over
--     digits-below              n digits come to less than 10^n
--     digits-to                 what the test tells
--     count_none, count-digits  a count of no bytes; one of digits alone
--     nothing_is                a count is 0 where no byte is above "0"
-- Assumes nothing.
use Prim.Native.Nat.{ℕ, zero, suc, ◌+◌, ◌-◌, ◌*◌, ◌^◌, ◌≤◌, ◌<◌}
use mathlib.Core.Bool.{true, false, ◌&&◌, and-true}
use mathlib.Core.Path.{◌≡◌, refl, sym, ap, ◌∙◌}
use mathlib.Core.List.{List, [], ◌∷◌, ◌++◌}
use native.Mathlib.Omega.{arith}
use native.Mathlib.Nat.{pow-le-pow_right, pow-suc, mul-le-mul_right}
use lib.Dec.{leb}
use lib.ListN.{length, get_or}
use borrow.Author.Tests.{leb-true, leb-false, le-leb, ne_eqb}
use Rattle.metafile.specs.Bytes.{all, is_zero}
use Rattle.metafile.specs.Fields.{is_digit, number, number_from, digits_to, is_space, take_while, drop_while, is_count, count_value}
use Rattle.laws.proofs.First.{test, and_both, is_zero-is, is_zero-not}
use Rattle.laws.proofs.Digits.{number_from-append, count-number}
use Rattle.fields.proofs.Prefix.{within, and_assoc}

-- ---- bounds

abbrev pub Small : ℕ → ℕ → Type 0
Small p x = x + 23 ≤ 23 * p

pub small-more : (p x d : ℕ) → d ≤ 207 → Small p x → Small (p * 10) (x + d * p)
small-more p x d h e = omega (arith, mul-le-mul_right p h)

pub small-fits : (p x d : ℕ) → p ≤ 10 ^ 11 → d ≤ 207 → Small p x → x + d * p < 2 ^ 64
small-fits p x d l h e = omega (arith, mul-le-mul_right p h)

pub power_le : (n p : ℕ) → n ≤ 11 → p ≡ 10 ^ n → p ≤ 10 ^ 11
power_le n p h e = rw e (pow-le-pow_right {n = 10} (omega arith) {i = n} {j = 11} h)

number_from-is : (x : ℕ) (s : List ℕ) → number_from x s ≡ x * 10 ^ length s + number_from 0 s
unfolding number_from
number_from-is x [] = omega arith
number_from-is x (d ∷ s) =
    let a = number_from-is (x * 10 + (d - 48)) s in
    let b = number_from-is (0 * 10 + (d - 48)) s in
    rw (a, b, pow-suc) (omega arith)

-- ---- two runs, and the number's size

pub number_append : (s t : List ℕ) → number (s ++ t) ≡ number s * 10 ^ length t + number t
unfolding number
number_append s t = number_from-append 0 s t ∙ number_from-is (number_from 0 s) t

-- ---- the loop: a power of 10, and one byte less before what was passed over

pub power_at : (n k p : ℕ) → k + 1 ≤ n → p ≡ 10 ^ (n - (k + 1)) → p * 10 ≡ 10 ^ (n - k)
power_at n k p h e =
    let m : n - k ≡ suc (n - (k + 1)) = omega arith in
    rw (m, pow-suc) (omega arith)

pub number_none : (whole : ℕ) (rest : List ℕ) (p x : ℕ) → length rest ≡ 0 → whole ≡ number rest * p + x → x ≡ whole
unfolding number number_from
number_none whole [] p x h e = omega (arith, e)
number_none whole (d ∷ rest) p x h e = absurd (omega arith)

pub number-last : (whole : ℕ) (rest : List ℕ) (d p x : ℕ) → whole ≡ number (rest ++ d ∷ []) * p + x
    → whole ≡ number rest * (p * 10) + (x + (d - 48) * p)
unfolding number number_from
number-last whole rest d p x e =
    omega (arith, e, ap (λ n. n * p) (number_append rest (d ∷ [])))

digit-le : (x : ℕ) → is_digit x ≡ true → x - 48 ≤ 9
unfolding is_digit
digit-le x e = omega (arith, leb-true x 57 (and_both (leb 48 x) (leb x 57) e).1)

-- the digits at the start of a run
pub digits-below : (s : List ℕ) → number (take_while is_digit s) < 10 ^ length (take_while is_digit s)
unfolding number number_from take_while
digits-below [] = omega arith
digits-below (d ∷ s) =
    let h = digits-below s in
    let t = take_while is_digit s in
    test (is_digit d)
    (λ q. rw (q, number_from-is (0 * 10 + (d - 48)) t, pow-suc)
    (omega (arith, mul-le-mul_right (10 ^ length t) (digit-le d q))))
    (λ q. rw q (omega arith))

pub digits-to : (most : ℕ) (s : List ℕ) → digits_to most s ≡ true → number s ≤ most
unfolding digits_to
digits-to most s e = leb-true (number s) most (and_both (all is_digit s) (leb (number s) most) e).1

-- ---- spaces in front

pub count_none : (s : List ℕ) → length s ≡ 0 → false ≡ is_count s
unfolding is_count drop_while
count_none [] e = refl
count_none (x ∷ s) e = absurd (omega arith)

count-plain : (s : List ℕ) → (length s ≡ 0 → ⊥) → (get_or s 0 0 ≡ 32 → ⊥) → all is_digit s ≡ is_count s
unfolding is_count drop_while is_space
count-plain [] n h = absurd (n refl)
count-plain (x ∷ s) n h = rw (ne_eqb x 32 h, le-leb 1 (suc (length s)) (omega arith))

first-digit : (s : List ℕ) → (length s ≡ 0 → ⊥) → all is_digit s ≡ true → 48 ≤ get_or s 0 0
unfolding all is_digit
first-digit [] n e = absurd (n refl)
first-digit (x ∷ s) n e =
    leb-true 48 x (and_both (leb 48 x) (leb x 57) (and_both (is_digit x) (all is_digit s) e).0).0

pub count-digits : (s : List ℕ) → (length s ≡ 0 → ⊥) → all is_digit s ≡ true → true ≡ is_count s
count-digits s n e = sym e ∙ count-plain s n (λ h. omega (arith, first-digit s n e, h))

-- ---- a count of 0

nothing-more : (acc x : ℕ) → is_zero (acc * 10 + (x - 48)) ≡ (is_zero acc && within 0 48 x)
unfolding is_zero
nothing-more (suc acc) x = is_zero-not (suc acc * 10 + (x - 48)) (λ e. omega (arith, e))
nothing-more zero x =
    test (leb x 48)
    (λ q. rw (le-leb 0 x (omega arith), q) (is_zero-is (0 * 10 + (x - 48)) (omega (arith, leb-true x 48 q))))
    (λ q. rw (le-leb 0 x (omega arith), q) (is_zero-not (0 * 10 + (x - 48)) (λ e. omega (arith, leb-false x 48 q, e))))

nothing-from : (acc : ℕ) (s : List ℕ) → is_zero (number_from acc s) ≡ (is_zero acc && all (within 0 48) s)
unfolding number_from all
nothing-from acc [] = sym (and-true (is_zero acc))
nothing-from acc (x ∷ s) =
    nothing-from (acc * 10 + (x - 48)) s ∙ rw (nothing-more acc x) (and_assoc (is_zero acc) (within 0 48 x) (all (within 0 48) s))

pub nothing_is : (s : List ℕ) → all (within 0 48) s ≡ is_zero (count_value s)
nothing_is s = sym (ap is_zero (count-number s) ∙ (unfold number is_zero in nothing-from 0 s))
