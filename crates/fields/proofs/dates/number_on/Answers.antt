-- `fields::dates::number_on` meets its contract. Assumes nothing.
use native.Mathlib.Omega.{arith}
use Rattle.metafile.specs.Days.{civil, day_on}
use Rattle.metafile.proofs.DayNumbers.{is-day, is-month, day-bounds}
use Rattle.fields.proofs.dates.number_on.Goals as goal

pub days_before-requires : goal.days_before-requires
days_before-requires c = ((is-day (civil c.args.year c.args.month c.args.day) c.requires.day_value).0, c.requires.year_bound)

pub month_start-requires : goal.month_start-requires
month_start-requires c = let k = c in (is-month (civil k.args.year k.args.month k.args.day) k.requires.day_value).1

pub returns : goal.returns
unfolding day_on
returns c = rw (c.month_start.ensures, c.days_before.ensures)

pub overflow_cast-result : goal.overflow_cast-result
overflow_cast-result c =
    let k = c in
    omega (arith, returns c, day-bounds (civil k.args.year k.args.month k.args.day) k.requires.day_value k.requires.year_bound)

pub overflow_add-result : goal.overflow_add-result
overflow_add-result c = omega (arith, overflow_cast-result c)

pub overflow_add-result-2 : goal.overflow_add-result-2
overflow_add-result-2 c = omega (arith, overflow_cast-result c)
