-- Dates as day numbers: "Reading a date shall also give its day number, where 1 January of year 1 is 1." Assumes nothing.
use Rattle.std.specs.Prelude.{ℕ, zero, suc, ◌+◌, ◌-◌, Bool, cond, ◌&&◌, ◌≡◌, List, leb, ltb}
use Rattle.std.specs.declared.option.Option.{Option}
use Rattle.std.specs.declared.option.Option.TheVariants.{Some, None}
use Rattle.metafile.specs.declared.Day.{Day}
use Rattle.metafile.specs.Bytes.{part}
use Rattle.metafile.specs.Fields.{leap, month_days, year_of, month_of, day_of, is_date, is_serial}

-- ---- the calendar

pub record Civil : Type 0 where
  pub year : ℕ
  pub month : ℕ
  pub day : ℕ

abbrev pub civil : ℕ → ℕ → ℕ → Civil
civil y m d = record { year = y; month = m; day = d }

-- there is such a day
unfoldable pub is_day : Civil → Bool
is_day c = leb 1 c.year && leb 1 c.day && leb c.day (month_days c.year c.month)

-- the day after: in the same month, the first of the next month, or 1 January
unfoldable pub next_day : Civil → Civil
next_day c =
    cond (ltb c.day (month_days c.year c.month))
    (civil c.year c.month (c.day + 1))
    (cond (ltb c.month 12) (civil c.year (c.month + 1) 1) (civil (c.year + 1) 1 1))

-- ---- the number of a day

unfoldable pub year_days : ℕ → ℕ
year_days y = cond (leap y) 366 365

-- the days of the years 1 to n
unfoldable pub years_days : ℕ → ℕ
years_days zero = 0
years_days (suc n) = years_days n + year_days (suc n)

-- the days of the months 1 to n of the year y
unfoldable pub months_days : ℕ → ℕ → ℕ
months_days y zero = 0
months_days y (suc n) = months_days y n + month_days y (suc n)

-- "1 January of year 1 is 1": the days before the year, the days before the month, and the day
unfoldable pub day_on : Civil → ℕ
day_on c = years_days (c.year - 1) + months_days c.year (c.month - 1) + c.day

-- ---- reading

-- the day that eight digits say
unfoldable pub dated : List ℕ → Civil
dated v = civil (year_of v) (month_of v) (day_of v)

unfoldable pub day_number : List ℕ → ℕ
day_number v = day_on (dated v)

unfoldable pub day_in : List ℕ → Day
day_in v = record { year = year_of v; month = month_of v; day = day_of v }

-- what reading a date gives, and reading a serial number, by its date: the day, or that there is none
unfoldable pub day_read : List ℕ → Option Day
day_read v = cond (is_date v) (Some (day_in v)) None

unfoldable pub serial_read : List ℕ → Option Day
serial_read v = cond (is_serial v) (Some (day_in (part 1 8 v))) None

-- a day that reading some bytes gave
pub record Read (day : Option Day) : Type 0 where
  pub of : List ℕ
  pub is : day ≡ day_read of

-- its number by 01: none, or "6 field out of form or range"
unfoldable pub day_fault : Option Day → ℕ
day_fault (Some day) = 0
day_fault None = 6

-- its value: the day number; 0, before every day, where there is no date
unfoldable pub day_value_of : Option Day → ℕ
day_value_of (Some d) = day_on (civil d.year d.month d.day)
day_value_of None = 0
