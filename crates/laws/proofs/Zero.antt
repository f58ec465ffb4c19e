-- What holds no zero byte: the fields that a reader takes, but for free bytes. A byte that was lost as zero is seen there.
-- Numbers, dates and serial numbers are text.
--     digit-non_zero text-non_zero digits-clear text-clear   bytes
--     join-all               two parts side by side
--     count-text date-text serial-text   fields that are text
--     count-clear decimal-clear date-clear offset-clear serial-clear   composed fields
-- Assumes nothing.
use Prim.Native.Nat.{ℕ, zero, suc, ◌+◌, ◌*◌}
use mathlib.Core.Bool.{Bool, true, ◌&&◌}
use mathlib.Core.Path.{◌≡◌, refl}
use mathlib.Core.List.{List, [], ◌∷◌, ◌++◌}
use native.Mathlib.Omega.{arith}
use lib.Dec.{leb, ltb, eqb}
use lib.ListN.{length, take, drop}
use lib.Seq.{take-add, drop-drop}
use borrow.Author.Tests.{eqb-true, leb-true, le-leb}
use Rattle.metafile.specs.Bytes.{bytes, part, all, is_zero, non_zero, same, member, sum}
use Rattle.metafile.specs.Fields.{is_digit, number, digits_to, is_count, count_value, is_text, is_date, year_of, month_of, day_of, month_days, is_space, drop_while, point_passed, digits_before, point_on, digits_behind, spaces_behind, is_decimal, decimal_units, second, is_offset, is_serial}
use Rattle.laws.proofs.First.{test, and_both, both-and}
use Rattle.laws.proofs.Lists.{same-eq, all_append, all-weaken, all_of, member-all}

-- ---- bytes

pub digit-non_zero : (x : ℕ) → is_digit x ≡ true → non_zero x ≡ true
unfolding is_digit non_zero is_zero
digit-non_zero zero e = e
digit-non_zero (suc x) e = refl

pub text-non_zero : (x : ℕ) → is_text x ≡ true → non_zero x ≡ true
unfolding is_text non_zero is_zero
text-non_zero zero e = e
text-non_zero (suc x) e = refl

space-non_zero : (x : ℕ) → is_space x ≡ true → non_zero x ≡ true
unfolding is_space non_zero is_zero
space-non_zero zero e = e
space-non_zero (suc x) e = refl

pub digits-clear : (v : List ℕ) → all is_digit v ≡ true → all non_zero v ≡ true
digits-clear v e = all-weaken is_digit non_zero v digit-non_zero e

pub text-clear : (v : List ℕ) → all is_text v ≡ true → all non_zero v ≡ true
text-clear v e = all-weaken is_text non_zero v text-non_zero e

digit-text : (x : ℕ) → is_digit x ≡ true → is_text x ≡ true
unfolding is_digit is_text
digit-text x e =
    let h = and_both (leb 48 x) (leb x 57) e in
    both-and (leb 32 x) (leb x 126)
    (le-leb 32 x (omega (arith, leb-true 48 x h.0)))
    (le-leb x 126 (omega (arith, leb-true x 57 h.1)))

space-text : (x : ℕ) → is_space x ≡ true → is_text x ≡ true
unfolding is_space is_text
space-text x e = rw (eqb-true x 32 e)

while-all : (p q : ℕ → Bool) (v : List ℕ) → ((x : ℕ) → p x ≡ true → q x ≡ true) → all q (drop_while p v) ≡ true → all q v ≡ true
unfolding drop_while all
while-all p q [] h e = refl
while-all p q (x ∷ xs) h e =
    test (p x) (λ k. rw (h x k) (while-all p q xs h (rw k at e))) (λ k. rw k at e)

digits-text : (v : List ℕ) → all is_digit v ≡ true → all is_text v ≡ true
digits-text v e = all-weaken is_digit is_text v digit-text e

pub count-text : (v : List ℕ) → is_count v ≡ true → all is_text v ≡ true
unfolding is_count
count-text v e =
    while-all is_space is_text v space-text
    (digits-text _ (and_both (leb 1 (length (drop_while is_space v))) (all is_digit (drop_while is_space v)) e).1)

pub count-clear : (v : List ℕ) → is_count v ≡ true → all non_zero v ≡ true
count-clear v e = text-clear v (count-text v e)

digits_to-text : (most : ℕ) (v : List ℕ) → digits_to most v ≡ true → all is_text v ≡ true
unfolding digits_to
digits_to-text most v e = digits-text v (and_both (all is_digit v) (leb (number v) most) e).0

-- two parts side by side
pub join-all : (q : ℕ → Bool) (p n k : ℕ) (v : List ℕ) → all q (part p n v) ≡ true → all q (part (p + n) k v) ≡ true → all q (part p (n + k) v) ≡ true
join-all q p n k v a b =
    rw (take-add n k (drop p v), drop-drop n p v) (all_append q (part p n v) (part (p + n) k v) a b)

-- ---- date

pub date-text : (v : List ℕ) → is_date v ≡ true → all is_text v ≡ true
unfolding is_date
date-text v e =
    let year : Bool = leb 1 (year_of v) in
    let day : Bool = leb 1 (day_of v) in
    let h = and_both (all is_digit v && year && day) (leb (day_of v) (month_days (year_of v) (month_of v))) e in
    let k = and_both (all is_digit v && year) day h.0 in
    digits-text v (and_both (all is_digit v) year k.0).0

pub date-clear : (v : List ℕ) → is_date v ≡ true → all non_zero v ≡ true
date-clear v e = text-clear v (date-text v e)

-- ---- offset

point-clear : (v : List ℕ) → all non_zero (point_passed v) ≡ true → all non_zero v ≡ true
unfolding point_passed all non_zero is_zero
point-clear [] e = refl
point-clear (x ∷ xs) e = test (eqb x 46) (λ q. rw (eqb-true x 46 q) (rw q at e)) (λ q. rw q at e)

pub decimal-clear : (v : List ℕ) → is_decimal v ≡ true → all non_zero v ≡ true
unfolding is_decimal spaces_behind point_on
decimal-clear v e =
    let h = and_both (leb 1 (length (digits_before v ++ digits_behind v))) (all is_space (spaces_behind v)) e in
    while-all is_space non_zero v space-non_zero
    (while-all is_digit non_zero _ digit-non_zero (point-clear _ (while-all is_digit non_zero _ digit-non_zero (all-weaken is_space non_zero _ space-non_zero h.1))))

signs : List (List ℕ)
signs = bytes "+" ∷ bytes "-" ∷ []

signs-clear : all_of (all non_zero) signs ≡ true
unfolding signs all_of all non_zero is_zero
signs-clear = refl

pub offset-clear : (v : List ℕ) → is_offset v ≡ true → all non_zero (take 16 v) ≡ true
unfolding is_offset signs
offset-clear v e =
    let sign : Bool = member (part 0 1 v) signs in
    let hours : Bool = digits_to 23 (part 1 2 v) in
    let minutes : Bool = digits_to 59 (part 3 2 v) in
    let decimal : Bool = is_decimal (part 5 11 v) in
    let h4 = and_both (sign && hours && minutes && decimal) (ltb (decimal_units (part 5 11 v)) (60 * second)) e in
    let h3 = and_both (sign && hours && minutes) decimal h4.0 in
    let h2 = and_both (sign && hours) minutes h3.0 in
    let h1 = and_both sign hours h2.0 in
    join-all non_zero 0 1 15 v (member-all (all non_zero) (part 0 1 v) signs signs-clear h1.0)
    (join-all non_zero 1 2 13 v (text-clear _ (digits_to-text 23 (part 1 2 v) h1.1))
    (join-all non_zero 3 2 11 v (text-clear _ (digits_to-text 59 (part 3 2 v) h2.1)) (decimal-clear (part 5 11 v) h3.1)))

-- ---- serial number

pub serial-text : (v : List ℕ) → is_serial v ≡ true → all is_text (take 38 v) ≡ true
unfolding is_serial all is_text
serial-text v e =
    let sign : Bool = same (part 0 1 v) (bytes "#") in
    let day : Bool = is_date (part 1 8 v) in
    let hour : Bool = digits_to 23 (part 9 2 v) in
    let minute : Bool = digits_to 59 (part 11 2 v) in
    let moment : Bool = digits_to 59 (part 13 2 v) in
    let milli : Bool = digits_to 999 (part 15 3 v) in
    let processor : Bool = all is_text (part 18 12 v) in
    let random : Bool = digits_to 65535 (part 30 5 v) in
    let check : Bool = is_count (part 35 3 v) in
    let h9 = and_both (sign && day && hour && minute && moment && milli && processor && random && check) (eqb (count_value (part 35 3 v)) (sum (take 35 v))) e in
    let h8 = and_both (sign && day && hour && minute && moment && milli && processor && random) check h9.0 in
    let h7 = and_both (sign && day && hour && minute && moment && milli && processor) random h8.0 in
    let h6 = and_both (sign && day && hour && minute && moment && milli) processor h7.0 in
    let h5 = and_both (sign && day && hour && minute && moment) milli h6.0 in
    let h4 = and_both (sign && day && hour && minute) moment h5.0 in
    let h3 = and_both (sign && day && hour) minute h4.0 in
    let h2 = and_both (sign && day) hour h3.0 in
    let h1 = and_both sign day h2.0 in
    join-all is_text 0 1 37 v (rw (same-eq (part 0 1 v) (bytes "#") h1.0))
    (join-all is_text 1 8 29 v (date-text (part 1 8 v) h1.1)
    (join-all is_text 9 2 27 v (digits_to-text 23 (part 9 2 v) h2.1)
    (join-all is_text 11 2 25 v (digits_to-text 59 (part 11 2 v) h3.1)
    (join-all is_text 13 2 23 v (digits_to-text 59 (part 13 2 v) h4.1)
    (join-all is_text 15 3 20 v (digits_to-text 999 (part 15 3 v) h5.1)
    (join-all is_text 18 12 8 v h6.1
    (join-all is_text 30 5 3 v (digits_to-text 65535 (part 30 5 v) h7.1) (count-text (part 35 3 v) h8.1))))))))

pub serial-clear : (v : List ℕ) → is_serial v ≡ true → all non_zero (take 38 v) ≡ true
serial-clear v e = text-clear (take 38 v) (serial-text v e)
