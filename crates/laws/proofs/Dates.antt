-- What reading a date or a serial number gives, by the test that it passes.
--     date-good, serial-good    no fault: the test is passed
--     date-asked, serial-asked  no fault, as a test
--     day-is                    the day's number
-- Assumes nothing.
use Prim.Native.Nat.{ℕ}
use mathlib.Core.Bool.{Bool, true, false, cond}
use mathlib.Core.Path.{◌≡◌, refl, sym, ap, ◌∙◌}
use mathlib.Core.List.{List}
use Rattle.std.specs.declared.option.Option.TheVariants.{Some, None}
use Rattle.metafile.specs.declared.Day.{Day}
use Rattle.metafile.specs.Bytes.{is_zero}
use Rattle.metafile.specs.Fields.{is_date, is_serial}
use Rattle.metafile.specs.Days.{dated, day_number, day_in, day_read, serial_read, day_fault, day_value_of}
use Rattle.metafile.specs.Lines.{date_fault, serial_fault}

asked_by : (b : Bool) (day : Day) → is_zero (day_fault (cond b (Some day) None)) ≡ b
unfolding day_fault is_zero
asked_by true day = refl
asked_by false day = refl

good-by : (b : Bool) (day : Day) → day_fault (cond b (Some day) None) ≡ 0 → b ≡ true
unfolding is_zero
good-by b day e = sym (asked_by b day) ∙ ap is_zero e

pub date-asked : (v : List ℕ) → is_zero (day_fault (day_read v)) ≡ is_date v
unfolding day_read day_in
date-asked v = asked_by (is_date v) _

pub serial-asked : (v : List ℕ) → is_zero (day_fault (serial_read v)) ≡ is_serial v
unfolding serial_read day_in
serial-asked v = asked_by (is_serial v) _

pub serial-good : (v : List ℕ) → serial_fault v ≡ 0 → is_serial v ≡ true
unfolding serial_fault serial_read day_in
serial-good v e = good-by (is_serial v) _ e

pub date-good : (v : List ℕ) → date_fault v ≡ 0 → is_date v ≡ true
unfolding date_fault day_read day_in
date-good v e = good-by (is_date v) _ e

pub day-is : (v : List ℕ) → is_date v ≡ true → day_value_of (day_read v) ≡ day_number v
unfolding day_read day_in day_value_of day_number dated
day-is v e = rw e
