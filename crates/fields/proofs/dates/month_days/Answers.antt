-- `fields::dates::month_days` meets its contract. Assumes nothing.
use native.Mathlib.Omega.{arith}
use Rattle.fields.proofs.Calendar.{february-fits, month-none, month-le, month-february, month-other}
use Rattle.fields.proofs.dates.month_days.Goals as goal

pub returns-then-month : goal.returns-then-month
returns-then-month c = month-none _ _ c.if-month.true

pub overflow_add-result : goal.overflow_add-result
overflow_add-result c = rw c.from.ensures (february-fits c.leap.result)

pub returns-then-month-eq2 : goal.returns-then-month-eq2
returns-then-month-eq2 c = rw c.from.ensures (month-february _ _ _ c.if-month-eq2.true c.leap.ensures)

pub overflow_add-result-2 : goal.overflow_add-result-2
overflow_add-result-2 c = omega (arith, month-le c.args.month c.if-month.false)

pub returns : goal.returns
returns c = month-other _ _ c.if-month.false c.if-month-eq2.false
