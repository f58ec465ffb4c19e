-- `fields::dates::read_date` meets its contract. Assumes nothing.
use mathlib.Core.Bool.{◌&&◌}
use mathlib.Core.Path.{◌≡◌, sym, ap, ◌∙◌}
use lib.Dec.{leb}
use native.Mathlib.Nat.{le_of_eq}
use native.Mathlib.Omega.{arith}
use lib.Seq.{take_all, length-take-le}
use Rattle.metafile.specs.Bytes.{all}
use Rattle.metafile.specs.Fields.{is_digit, is_date, year_of, month_of, day_of}
use Rattle.metafile.specs.Days.{day_read}
use Rattle.fields.proofs.Days.{date-tested, day-made, Parts, date-parts}
use Rattle.fields.proofs.dates.read_date.Goals as goal
use Rattle.fields.proofs.dates.read_date.Goals.{After-month_days, Then-digits-year}

pub slice_bounds-is_digits-end : goal.slice_bounds-is_digits-end
slice_bounds-is_digits-end c =
    let k = c in
    sym (length-take-le 8 k.args.s.now (omega (arith, k.requires)))

year-is : (c : After-month_days) → c.number_at-year.result ≡ year_of c.args.s.now
unfolding year_of
year-is c = c.number_at-year.ensures

month-is : (c : After-month_days) → c.number_at-month.result ≡ month_of c.args.s.now
unfolding month_of
month-is c = c.number_at-month.ensures

day-is : (c : After-month_days) → c.number_at-day.result ≡ day_of c.args.s.now
unfolding day_of
day-is c = c.number_at-day.ensures

digits-is : (c : After-month_days) → c.is_digits-digits.result ≡ all is_digit c.args.s.now
digits-is c = c.is_digits-digits.ensures ∙ ap (all is_digit) (take_all 8 c.args.s.now (le_of_eq c.requires))

-- the tests together
tested : (c : After-month_days)
    → (c.is_digits-digits.result
    && leb 1 c.number_at-year.result
    && leb 1 c.number_at-day.result
    && leb c.number_at-day.result c.month_days.result)
    ≡ is_date c.args.s.now
tested c =
    date-tested c.args.s.now _ _ _ _ _ (digits-is c) (year-is c) (month-is c) (day-is c) c.month_days.ensures

parts : (c : Then-digits-year) → Parts c.args.s.now
unfolding day_of month_of year_of
parts c =
    let year-is : c.number_at-year.result ≡ year_of c.args.s.now = c.number_at-year.ensures in
    let month-is : c.number_at-month.result ≡ month_of c.args.s.now = c.number_at-month.ensures in
    let day-is : c.number_at-day.result ≡ day_of c.args.s.now = c.number_at-day.ensures in
    let digits-is : c.is_digits-digits.result ≡ all is_digit c.args.s.now = c.is_digits-digits.ensures ∙ ap (all is_digit) (take_all 8 c.args.s.now (le_of_eq c.requires)) in
    let tested : (c.is_digits-digits.result
    && leb 1 c.number_at-year.result
    && leb 1 c.number_at-day.result
    && leb c.number_at-day.result c.month_days.result)
    ≡ is_date c.args.s.now = date-tested c.args.s.now _ _ _ _ _ digits-is year-is month-is day-is c.month_days.ensures in
    date-parts _ (sym tested ∙ c.if-digits-year.true)

pub overflow_cast-result : goal.overflow_cast-result
overflow_cast-result c = omega (arith, year-is (goal.at.overflow_cast-result c).After-month_days, (parts c).year-small)

pub overflow_cast-result-then-digits-year : goal.overflow_cast-result-then-digits-year
overflow_cast-result-then-digits-year c = omega (arith, month-is (goal.at.overflow_cast-result-then-digits-year c).After-month_days, (parts c).month-small)

pub overflow_cast-result-then-digits-year-2 : goal.overflow_cast-result-then-digits-year-2
overflow_cast-result-then-digits-year-2 c = omega (arith, day-is (goal.at.overflow_cast-result-then-digits-year-2 c).After-month_days, (parts c).day-small)

pub returns-then-digits-year : goal.returns-then-digits-year
returns-then-digits-year c =
    let m = c in
    day-made _ _ _ _ (sym (tested (goal.at.returns-then-digits-year c).After-month_days) ∙ c.if-digits-year.true) (year-is (goal.at.returns-then-digits-year c).After-month_days) (month-is (goal.at.returns-then-digits-year c).After-month_days) (day-is (goal.at.returns-then-digits-year c).After-month_days)

pub returns : goal.returns
unfolding day_read
returns c = rw (sym (tested (goal.at.returns c).After-month_days) ∙ c.if-digits-year.false)
