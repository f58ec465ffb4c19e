-- Dates and serial numbers as the code reads them, and the number of a day as it comes to it.
--     start b m               the days before the month m, in a leap year or not: the code's table, and one more behind February
--     start_fits              it fits 64 bits
--     month-start             it is the days of the months before
--     date-tested day-made    the tests of a date together, and what reading it gives
--     Parts date-parts        year, month and day of a date are small
--     read-on                 a day that was read
--     serial-date serial-tested serial-day   a serial number's date is one; its tests together, and what reading it gives
-- Assumes nothing.
use Prim.Native.Nat.{ℕ, ◌+◌, ◌-◌, ◌≤◌, ◌<◌}
use mathlib.Core.Bool.{Bool, true, false, ◌&&◌, ◌||◌}
use mathlib.Core.Path.{◌≡◌, refl, sym, ap, ◌∙◌}
use mathlib.Core.List.{List, [], ◌∷◌}
use native.Mathlib.Omega.{arith}
use lib.Dec.{leb, ltb, eqb}
use lib.ListN.{take, get_or}
use mir.Syntax.{w64}
use mir.Val.{Fits, bool_byte}
use borrow.Author.Tests.{leb-true, eqb-true, eqb-false}
use Rattle.metafile.specs.declared.Day.{Day}
use Rattle.std.specs.declared.option.Option.{Option}
use Rattle.std.specs.declared.option.Option.TheVariants.{Some, None}
use Rattle.std.specs.Option.{is_some}
use Rattle.metafile.specs.Bytes.{bytes, part, all, same, sum}
use Rattle.metafile.specs.Fields.{is_digit, digits_to, is_count, count_value, is_text, leap, month_days, year_of, month_of, day_of, is_date, is_serial}
use Rattle.metafile.specs.Days.{civil, is_day, months_days, dated, day_in, day_read, serial_read}
use Rattle.metafile.proofs.DayNumbers.{is-day, is-month, digits-and-day, year-below}
use Rattle.laws.proofs.First.{test, untrue}
use Rattle.laws.proofs.Lists.{all-at}
use Rattle.fields.proofs.Tables.{table, table_at}
use Rattle.fields.proofs.Calendar.{month-none, month-february, month-other}

starts : List ℕ
starts = 0 ∷ 0 ∷ 31 ∷ 59 ∷ 90 ∷ 120 ∷ 151 ∷ 181 ∷ 212 ∷ 243 ∷ 273 ∷ 304 ∷ 334 ∷ []

unfoldable pub start : Bool → ℕ → ℕ
unfolding starts
start b m = get_or starts m 0 + bool_byte (ltb 2 m && b)

one_more : (b : Bool) → bool_byte b ≤ 1
one_more true = omega arith
one_more false = omega arith

pub start_fits : (b : Bool) (m : ℕ) → m ≤ 12 → Fits w64 (start b m)
unfolding start starts all
start_fits b m h =
    omega (arith, leb-true (get_or starts m 0) 334 (all-at (λ x. leb x 334) starts m (omega arith) refl), one_more (ltb 2 m && b))

starts-table : (y : ℕ) → table (start (leap y)) 0 13 ≡ table (λ m. months_days y (m - 1)) 0 13
unfolding start starts table months_days month_days
starts-table y = test (leap y) (λ q. rw q) (λ q. rw q)

pub month-start : (y m : ℕ) (b : Bool) → m ≤ 12 → b ≡ leap y → start b m ≡ months_days y (m - 1)
month-start y m b h e =
    let z : 0 + m ≡ m = omega arith in
    let p : m < 13 = omega arith in
    let f : ℕ → ℕ = λ n. months_days y (n - 1) in
    rw (e, ← z) (sym (table_at (start (leap y)) 0 13 m p) ∙ ap (λ t. get_or t m 0) (starts-table y) ∙ table_at f 0 13 m p)

-- ---- a day that was read

month-most : (y m : ℕ) → month_days y m ≤ 31
month-most y m =
    test (eqb m 0 || ltb 12 m)
    (λ e. omega (arith, month-none y m e))
    (λ e. test (eqb m 2)
    (λ q. omega (arith, month-february y m (leap y) (eqb-true m 2 q) refl, one_more (leap y)))
    (λ q. omega (arith, month-other y m e (eqb-false m 2 q))))

pub record Parts (v : List ℕ) : Type 0 where
  pub year-small : year_of v ≤ 9999
  pub month-small : month_of v ≤ 12
  pub day-small : day_of v ≤ 31

pub date-parts : (v : List ℕ) → is_date v ≡ true → Parts v
unfolding dated
date-parts v e =
    let d = (digits-and-day v e).1 in
    record {
      year-small = year-below v e;
      month-small = (is-month (dated v) d).1;
      day-small = omega (arith, is-day (dated v) d, month-most (year_of v) (month_of v));
    }

-- the tests of a date, as the code makes them
pub date-tested : (v : List ℕ) (digits : Bool) (y m d days : ℕ) → digits ≡ all is_digit v → y ≡ year_of v → m ≡ month_of v → d ≡ day_of v
    → days ≡ month_days y m → (digits && leb 1 y && leb 1 d && leb d days) ≡ is_date v
unfolding is_date
date-tested v digits y m d days p q r t u = rw (u, p, q, r, t)

pub day-made : (v : List ℕ) (y m d : ℕ) → is_date v ≡ true → y ≡ year_of v → m ≡ month_of v → d ≡ day_of v → Some (record { year = y; month = m; day = d }) ≡ day_read v
unfolding day_read day_in
day-made v y m d e p q r = rw (e, p, q, r)

pub read-on : (d : Day) (v : List ℕ) → Some d ≡ day_read v → (is_day (civil d.year d.month d.day) ≡ true) × (d.year ≤ 9999)
unfolding day_read day_in dated
read-on d v e =
    test (is_date v)
    (λ q.
    let some : Some d ≡ Some (day_in v) = rw q at e in
    let is : d ≡ day_in v = cc in
    rw is ((digits-and-day v q).1, year-below v q))
    (λ q.
    let none : Some d ≡ None = rw q at e in
    cc)

pub date-some : (v : List ℕ) → is_some (day_read v) ≡ is_date v
unfolding day_read
date-some v = test (is_date v) (λ q. rw q) (λ q. rw q)

pub serial-date : (v : List ℕ) → is_serial v ≡ true → is_date (part 1 8 v) ≡ true
unfolding is_serial
serial-date v e =
    test (is_date (part 1 8 v)) (λ q. q)
    (λ q. test (same (part 0 1 v) (bytes "#")) (λ p. untrue (rw (p, q) at e)) (λ p. untrue (rw p at e)))

-- the tests of a serial number, as the code makes them
pub serial-tested : (v : List ℕ) (hash date hour minute second ms text random counted : Bool) (n k : ℕ)
    → hash ≡ same (part 0 1 v) (bytes "#") → date ≡ is_some (day_read (part 1 8 v)) → hour ≡ digits_to 23 (part 9 2 v)
    → minute ≡ digits_to 59 (part 11 2 v) → second ≡ digits_to 59 (part 13 2 v) → ms ≡ digits_to 999 (part 15 3 v)
    → text ≡ all is_text (part 18 12 v) → random ≡ digits_to 65535 (part 30 5 v) → counted ≡ is_count (part 35 3 v)
    → n ≡ count_value (part 35 3 v) → k ≡ sum (take 35 v)
    → (hash && date && hour && minute && second && ms && text && random && counted && eqb n k) ≡ is_serial v
unfolding is_serial
serial-tested v hash date hour minute second ms text random counted n k p f a b c d t e g q r =
    rw (p, f, a, b, c, d, t, e, g, q, r, date-some (part 1 8 v))

-- what reading it gives is what reading its date gave
pub serial-day : (v : List ℕ) (day : Option Day) → is_serial v ≡ true → day ≡ day_read (part 1 8 v) → day ≡ serial_read v
unfolding serial_read day_read
serial-day v day e is = is ∙ rw (e, serial-date v e)
