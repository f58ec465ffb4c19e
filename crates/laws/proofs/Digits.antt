-- A number in n digits is read back, if it has no more; the digits are digits, n of them. Numbers with spaces in front.
--     count-number               a space in front counts nothing
--     strict-count               digits alone are in form, and keep their value by count-number
--     padded-form padded-value   spaces and digits are in form; the value is that of the digits
--     Padded count-padded        nothing else is in form
-- Assumes nothing.
use Prim.Native.Nat.{ℕ, zero, suc, ◌+◌, ◌-◌, ◌*◌, ◌/◌, ◌%◌, ◌^◌, ◌<◌}
use mathlib.Core.Bool.{true, false}
use mathlib.Core.Path.{◌≡◌, refl, ap, ◌∙◌}
use mathlib.Core.List.{List, [], ◌∷◌, ◌++◌}
use native.Mathlib.Omega.{arith}
use lib.Dec.{leb, eqb}
use lib.ListN.{length, replicate, length-append}
use borrow.Author.Tests.{le-leb, leb-true, eqb-true, ne_eqb}
use Rattle.metafile.specs.Bytes.{all, sum}
use Rattle.metafile.specs.Fields.{is_digit, number, number_from, digits_of, is_space, take_while, drop_while, is_count, count_value}
use Rattle.laws.proofs.First.{test, and_both, both-and}
use Rattle.laws.proofs.Lists.{all_append}

pub number_from-append : (acc : ℕ) (a b : List ℕ) → number_from acc (a ++ b) ≡ number_from (number_from acc a) b
unfolding number_from
number_from-append acc [] b = refl
number_from-append acc (x ∷ xs) b = number_from-append (acc * 10 + (x - 48)) xs b

pub number-digits_of : (n x : ℕ) → x < 10 ^ n → number (digits_of n x) ≡ x
unfolding number digits_of number_from
number-digits_of zero x h = omega arith
number-digits_of (suc n) x h =
    let ih : number_from 0 (digits_of n (x / 10)) ≡ x / 10 = number-digits_of n (x / 10) (omega arith) in
    rw (number_from-append 0 (digits_of n (x / 10)) ((48 + x % 10) ∷ []), ih) (omega arith)

-- ---- spaces in front

pub count-number : (v : List ℕ) → count_value v ≡ number v
unfolding count_value number number_from drop_while is_space
count-number [] = refl
count-number (x ∷ xs) = test (eqb x 32) (λ q. rw (q, eqb-true x 32 q) (count-number xs)) (λ q. rw q)

digit-no-space : (x : ℕ) → is_digit x ≡ true → is_space x ≡ false
unfolding is_digit is_space
digit-no-space x e =
    let h = leb-true 48 x (and_both (leb 48 x) (leb x 57) e).0 in
    ne_eqb x 32 (omega arith)

digits-stay : (v : List ℕ) → all is_digit v ≡ true → drop_while is_space v ≡ v
unfolding drop_while all
digits-stay [] e = refl
digits-stay (x ∷ xs) e = rw (digit-no-space x (and_both (is_digit x) (all is_digit xs) e).0)

pub strict-count : (v : List ℕ) → all is_digit v ≡ true → 0 < length v → is_count v ≡ true
unfolding is_count
strict-count v e h = rw (digits-stay v e, e, le-leb 1 (length v) h)

spaces-passed : (n : ℕ) (d : List ℕ) → drop_while is_space (replicate n 32 ++ d) ≡ drop_while is_space d
unfolding drop_while is_space
spaces-passed zero d = refl
spaces-passed (suc n) d = spaces-passed n d

-- "leading spaces before at least one digit"
module _ (n : ℕ) (d : List ℕ) (e : all is_digit d ≡ true) where
  pub padded-form : 0 < length d → is_count (replicate n 32 ++ d) ≡ true
  unfolding is_count
  padded-form h = rw (spaces-passed n d, digits-stay d e, e, le-leb 1 (length d) h)

  pub padded-value : count_value (replicate n 32 ++ d) ≡ number d
  unfolding count_value
  padded-value = rw (spaces-passed n d, digits-stay d e)

pub record Padded (v : List ℕ) : Type 0 where
  pub spaces : ℕ
  pub digits : List ℕ
  pub all_digits : all is_digit digits ≡ true
  pub some : 0 < length digits
  pub joined : v ≡ replicate spaces 32 ++ digits

spaces-first : (v : List ℕ) → v ≡ replicate (length (take_while is_space v)) 32 ++ drop_while is_space v
unfolding take_while drop_while is_space
spaces-first [] = refl
spaces-first (x ∷ xs) =
    test (eqb x 32) (λ q. rw (q, eqb-true x 32 q) (ap (λ (t : List ℕ). 32 ∷ t) (spaces-first xs))) (λ q. rw q)

pub count-padded : (v : List ℕ) → is_count v ≡ true → Padded v
unfolding is_count
count-padded v e =
    let h = and_both (leb 1 (length (drop_while is_space v))) (all is_digit (drop_while is_space v)) e in
    record {
      spaces = length (take_while is_space v);
      digits = drop_while is_space v;
      all_digits = h.1;
      some = leb-true 1 _ h.0;
      joined = spaces-first v;
    }

pub count_value-digits_of : (n x : ℕ) → x < 10 ^ n → count_value (digits_of n x) ≡ x
count_value-digits_of n x h = count-number (digits_of n x) ∙ number-digits_of n x h

pub length-digits_of : (n x : ℕ) → length (digits_of n x) ≡ n
unfolding digits_of
length-digits_of zero x = refl
length-digits_of (suc n) x = simp length-append (omega (arith, length-digits_of n (x / 10)))

pub digits-digits_of : (n x : ℕ) → all is_digit (digits_of n x) ≡ true
unfolding digits_of all is_digit
digits-digits_of zero x = refl
digits-digits_of (suc n) x =
    all_append is_digit (digits_of n (x / 10)) ((48 + x % 10) ∷ []) (digits-digits_of n (x / 10))
    (both-and _ _ (both-and _ _ (le-leb 48 (48 + x % 10) (omega arith)) (le-leb (48 + x % 10) 57 (omega arith))) refl)

pub count-digits_of : (n x : ℕ) → 0 < n → is_count (digits_of n x) ≡ true
count-digits_of n x h = strict-count (digits_of n x) (digits-digits_of n x) (omega (arith, length-digits_of n x))

pub sum_below : (s : List ℕ) → sum s < 256
unfolding sum
sum_below s = omega arith
