-- The numbers of days, for every date: no list of dates is gone through. Assumes nothing.
--     months-year                    the days of the twelve months are the days of the year
--     years-closed                   the days of the years 1 to n, by division
--     first-day next-day             "1 January of year 1 is 1"; "each day's number is one above that of the day before"
--     next-is-day                    the day after a day is a day
--     is-day is-month                the bounds of a day's year, month and day
--     day-bounds                     the numbers of the days to the year 9999
--     digits-and-day year-below      a date in eight digits is a day of the years to 9999
--     number-day next-date           its number's bounds; the number of the date after it
--     last-day numbers               "31 December 9999 is 3,652,059"; some more dates
use Prim.Native.Nat.{ℕ, zero, suc, ◌+◌, ◌-◌, ◌*◌, ◌/◌, ◌%◌, ◌^◌, ◌≤◌, ◌<◌}
use mathlib.Core.Bool.{Bool, true, false, cond, ◌&&◌, and-eq-true_iff, false≢true}
use mathlib.Core.Path.{◌≡◌, refl, ap, ◌∙◌}
use mathlib.Core.List.{List, [], ◌∷◌}
use native.Mathlib.Nat.{div-add-mod', mod-lt, div-eq_of_lt-le, mul-le-mul_right, pow-suc}
use native.Mathlib.Numerals.{add-one}
use native.Mathlib.Omega.{arith}
use lib.Dec.{leb, ltb, eqb}
use lib.ListN.{length, take, get_or, get_or-eq_default}
use lib.Seq.{take-nil}
use borrow.Author.Tests.{eqb-false, leb-true, leb-false, ltb-true, ltb-false, eq-eqb, ne_eqb, le-leb}
use borrow.Table.Steps.{cases}
use Rattle.metafile.specs.Bytes.{bytes, all}
use Rattle.metafile.specs.Fields.{is_digit, number_from, number, leap, month_days, year_of, month_of, day_of, is_date}
use Rattle.metafile.specs.Days.{Civil, civil, is_day, next_day, year_days, years_days, months_days, day_on, dated, day_number}

-- what grows with each step
rising : (f : ℕ → ℕ) → ((n : ℕ) → f n ≤ f (suc n)) → (n k : ℕ) → n ≤ k → f n ≤ f k
rising f h n zero l = let e : n ≡ 0 = omega arith in rw e (omega arith)
rising f h n (suc k) l =
    cases (leb n k)
    (λ t. omega (arith, rising f h n k (leb-true n k t), h k))
    (λ t. let e : n ≡ suc k = omega (arith, leb-false n k t) in rw e (omega arith))

-- ---- months

-- of the twelve months, x in the second
months : ℕ → List ℕ
months x = 31 ∷ x ∷ 31 ∷ 30 ∷ 31 ∷ 30 ∷ 31 ∷ 31 ∷ 30 ∷ 31 ∷ 30 ∷ 31 ∷ []

entry-some : (s : List ℕ) (k : ℕ) → all (leb 1) s ≡ true → k < length s → 1 ≤ get_or s k 0
unfolding all
entry-some [] k e h = absurd (omega arith)
entry-some (x ∷ s) zero e h = leb-true 1 x ((and-eq-true_iff (leb 1 x) (all (leb 1) s)).0 e).0
entry-some (x ∷ s) (suc k) e h = entry-some s k ((and-eq-true_iff (leb 1 x) (all (leb 1) s)).0 e).1 (omega arith)

months-some : (b : Bool) → all (leb 1) (months (cond b 29 28)) ≡ true
unfolding all months
months-some true = refl
months-some false = refl

month-some : (y m : ℕ) → m < 12 → 1 ≤ month_days y (m + 1)
unfolding month_days months
month-some y m h = rw (add-one m) (entry-some (months (cond (leap y) 29 28)) m (months-some (leap y)) h)

month-first : (y m : ℕ) → 1 ≤ month_days y m → 1 ≤ m
unfolding month_days
month-first y zero h = h
month-first y (suc m) h = omega arith

month-last : (y m : ℕ) → 1 ≤ month_days y m → m ≤ 12
unfolding month_days months
month-last y m h =
    cases (ltb 12 m)
    (λ q. absurd (omega (arith, get_or-eq_default (0 ∷ months (cond (leap y) 29 28)) 0 (ltb-true 12 m q))))
    (ltb-false 12 m)

pub months-year : (y : ℕ) → months_days y 12 ≡ year_days y
unfolding months_days month_days year_days
months-year y = cases (leap y) (λ q. rw q) (λ q. rw q)

months-more : (y m : ℕ) → 1 ≤ m → months_days y m ≡ months_days y (m - 1) + month_days y m
unfolding months_days
months-more y zero h = absurd (omega arith)
months-more y (suc m) h = let e : suc m - 1 ≡ m = omega arith in rw e

months-none : (y : ℕ) → months_days y 0 ≡ 0
unfolding months_days
months-none y = refl

months-rise : (y m : ℕ) → months_days y m ≤ months_days y (suc m)
unfolding months_days
months-rise y m = omega arith

-- ---- years

years-more : (y : ℕ) → 1 ≤ y → years_days y ≡ years_days (y - 1) + year_days y
unfolding years_days
years-more zero h = absurd (omega arith)
years-more (suc y) h = let e : suc y - 1 ≡ y = omega arith in rw e

years-rise : (y : ℕ) → years_days y ≤ years_days (suc y)
unfolding years_days
years-rise y = omega arith

-- one more where a multiple of k is reached
more : ℕ → ℕ
more r = cond (eqb r 0) 1 0

quotient-more : (k n : ℕ) → 0 < k → suc n / k ≡ n / k + more (suc n % k)
unfolding more
quotient-more k n h =
    let q = n / k in
    let a = div-add-mod' n k in
    let b = mod-lt n h in
    cases (ltb (suc (n % k)) k)
    (λ t.
    let u = ltb-true (suc (n % k)) k t in
    let e : suc n / k ≡ q = div-eq_of_lt-le k (omega arith) (omega arith) in
    rw (e, ne_eqb (suc n % k) 0 (λ z. omega (arith, rw e at (div-add-mod' (suc n) k), z))) (omega arith))
    (λ t.
    let u = ltb-false (suc (n % k)) k t in
    let e : suc n / k ≡ q + 1 = div-eq_of_lt-le k (omega arith) (omega arith) in
    rw (e, eq-eqb (suc n % k) 0 (omega (arith, rw e at (div-add-mod' (suc n) k)))) (omega arith))

year-more : (y : ℕ) → year_days y + more (y % 100) ≡ 365 + more (y % 4) + more (y % 400)
unfolding year_days leap more
year-more y =
    let a = y % 4 in
    let b = y % 100 in
    let c = y % 400 in
    cases (eqb a 0)
    (λ p. cases (eqb b 0)
    (λ q. cases (eqb c 0) (λ r. rw (p, q, r)) (λ r. rw (p, q, r)))
    (λ q. rw (p, q, ne_eqb c 0 (λ r. eqb-false b 0 q (omega (arith, r))))))
    (λ p. rw (p, ne_eqb b 0 (λ q. eqb-false a 0 p (omega (arith, q))), ne_eqb c 0 (λ r. eqb-false a 0 p (omega (arith, r)))))

years-sum : (n : ℕ) → years_days n + n / 100 ≡ 365 * n + n / 4 + n / 400
unfolding years_days
years-sum zero = refl
years-sum (suc n) =
    rw (quotient-more 4 n (omega arith), quotient-more 100 n (omega arith), quotient-more 400 n (omega arith))
    (omega (arith, years-sum n, year-more (suc n)))

pub years-closed : (n : ℕ) → years_days n ≡ 365 * n + n / 4 + n / 400 - n / 100
years-closed n = omega (arith, years-sum n)

-- ---- the next day

pub first-day : day_on (civil 1 1 1) ≡ 1
unfolding day_on years_days months_days
first-day = refl

day-is : (c : Civil) → 1 ≤ c.year → 1 ≤ c.day → c.day ≤ month_days c.year c.month → is_day c ≡ true
unfolding is_day
day-is c p q r = rw (le-leb 1 c.year p, le-leb 1 c.day q, le-leb c.day (month_days c.year c.month) r)

pub is-day : (c : Civil) → is_day c ≡ true → (1 ≤ c.year) × (1 ≤ c.day) × (c.day ≤ month_days c.year c.month)
unfolding is_day
is-day c e =
    let a = leb 1 c.year in
    let b = leb 1 c.day in
    let d = leb c.day (month_days c.year c.month) in
    let f = (and-eq-true_iff (a && b) d).0 e in
    let g = (and-eq-true_iff a b).0 f.0 in
    (leb-true 1 c.year g.0, leb-true 1 c.day g.1, leb-true c.day (month_days c.year c.month) f.1)

pub is-month : (c : Civil) → is_day c ≡ true → (1 ≤ c.month) × (c.month ≤ 12)
is-month c e =
    let h : 1 ≤ month_days c.year c.month = omega (arith, is-day c e) in
    (month-first c.year c.month h, month-last c.year c.month h)

pub next-day : (c : Civil) → is_day c ≡ true → day_on (next_day c) ≡ suc (day_on c)
unfolding next_day day_on
next-day c e =
    let y = c.year in
    let m = c.month in
    let h = is-day c e in
    let k = is-month c e in
    let f = months-more y m k.0 in
    cases (ltb c.day (month_days y m))
    (λ p. rw p (omega arith))
    (λ p.
    let l = ltb-false c.day (month_days y m) p in
    cases (ltb m 12)
    (λ q. let n : m + 1 - 1 ≡ m = omega arith in rw (p, q, n) (omega arith))
    (λ q.
    let n : y + 1 - 1 ≡ y = omega arith in
    let t : m ≡ 12 = omega (arith, ltb-false m 12 q) in
    rw (p, q, n, months-none (y + 1)) (omega (arith, years-more y h.0, months-year y, ap (months_days y) t))))

pub next-is-day : (c : Civil) → is_day c ≡ true → is_day (next_day c) ≡ true
unfolding next_day
next-is-day c e =
    let y = c.year in
    let m = c.month in
    let h = is-day c e in
    let k = is-month c e in
    cases (ltb c.day (month_days y m))
    (λ p. rw p (day-is (civil y m (c.day + 1)) h.0 (omega arith) (omega (arith, ltb-true c.day (month_days y m) p))))
    (λ p. cases (ltb m 12)
    (λ q. rw (p, q) (day-is (civil y (m + 1) 1) h.0 (omega arith) (month-some y m (ltb-true m 12 q))))
    (λ q. rw (p, q) (day-is (civil (y + 1) 1 1) (omega arith) (omega arith) (month-some (y + 1) 0 (omega arith)))))

-- no later than the year's end
in-year : (c : Civil) → is_day c ≡ true → day_on c ≤ years_days c.year
unfolding day_on
in-year c e =
    let y = c.year in
    let m = c.month in
    let h = is-day c e in
    let k = is-month c e in
    let f : (n : ℕ) → months_days y n ≤ months_days y (suc n) = months-rise y in
    omega (arith, months-more y m k.0, rising (months_days y) f m 12 k.1, months-year y, years-more y h.0)

pub day-bounds : (c : Civil) → is_day c ≡ true → c.year ≤ 9999 → (1 ≤ day_on c) × (day_on c ≤ 3652059)
unfolding day_on
day-bounds c e l =
    let h = is-day c e in
    (omega arith, omega (arith, in-year c e, rising years_days years-rise c.year 9999 l, years-closed 9999))

-- ---- dates in eight digits

first-and-others : (a b c d : Bool) → (a && b && c && d) ≡ true → (a ≡ true) × ((b && c && d) ≡ true)
first-and-others true b c d e = (refl, e)
first-and-others false b c d e = absurd (false≢true e)

-- n digits behind the number x
below : (n x : ℕ) (v : List ℕ) → all is_digit v ≡ true → number_from x (take n v) < (x + 1) * 10 ^ n
unfolding number_from all is_digit
below zero x v e = omega arith
below (suc n) x [] e = rw pow-suc (omega (arith, rw take-nil at (below n x [] e)))
below (suc n) x (d ∷ v) e =
    let f = (and-eq-true_iff (is_digit d) (all is_digit v)).0 e in
    let g : d - 48 ≤ 9 = omega (arith, leb-true d 57 ((and-eq-true_iff (leb 48 d) (leb d 57)).0 f.0).1) in
    rw pow-suc (omega (arith, below n (x * 10 + (d - 48)) v f.1, mul-le-mul_right (10 ^ n) g))

pub digits-and-day : (v : List ℕ) → is_date v ≡ true → (all is_digit v ≡ true) × (is_day (dated v) ≡ true)
unfolding is_date is_day dated
digits-and-day v e = first-and-others (all is_digit v) _ _ _ e

pub year-below : (v : List ℕ) → is_date v ≡ true → year_of v ≤ 9999
unfolding year_of number
year-below v e = omega (arith, below 4 0 v (digits-and-day v e).0)

pub number-day : (v : List ℕ) → is_date v ≡ true → (1 ≤ day_number v) × (day_number v ≤ 3652059)
unfolding day_number dated
number-day v e = day-bounds (dated v) (digits-and-day v e).1 (year-below v e)

pub next-date : (v w : List ℕ) → is_date v ≡ true → dated w ≡ next_day (dated v) → day_number w ≡ suc (day_number v)
unfolding day_number
next-date v w e n = ap day_on n ∙ next-day (dated v) (digits-and-day v e).1

-- ---- some numbers

number-closed :
    (v : List ℕ)
    → day_number v
    ≡ 365 * (year_of v - 1) + (year_of v - 1) / 4 + (year_of v - 1) / 400 - (year_of v - 1) / 100
    + months_days (year_of v) (month_of v - 1)
    + day_of v
unfolding day_number day_on dated
number-closed v = rw (years-closed (year_of v - 1))

pub last-day : day_number (bytes "99991231") ≡ 3652059
unfolding year_of month_of day_of number number_from months_days month_days leap
last-day = number-closed (bytes "99991231")

pub record Numbers : Type 0 where
  pub year-1-first : day_number (bytes "00010101") ≡ 1
  pub year-1-last : day_number (bytes "00011231") ≡ 365
  pub leap-day : day_number (bytes "16000229") ≡ 584082
  pub year-1970 : day_number (bytes "19700101") ≡ 719163
  pub year-2000 : day_number (bytes "20000101") ≡ 730120

pub numbers : Numbers
unfolding year_of month_of day_of number number_from months_days month_days leap
numbers =
    record {
      year-1-first = number-closed (bytes "00010101");
      year-1-last = number-closed (bytes "00011231");
      leap-day = number-closed (bytes "16000229");
      year-1970 = number-closed (bytes "19700101");
      year-2000 = number-closed (bytes "20000101");
    }
