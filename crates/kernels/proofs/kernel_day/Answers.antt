-- `kernels::kernel_day` meets its contract. Assumes nothing.
use mathlib.Core.Path.{◌∙◌, ap}
use borrow.Author.Tests.{eq-eqb, ne_eqb}
use Rattle.metafile.specs.Days.{day_value_of}
use Rattle.kernels.proofs.kernel_day.Goals as goal

pub day_number-requires : goal.day_number-requires
day_number-requires c = record { of = _; is = c.read_date.ensures }

pub returns-then-date-eq8 : goal.returns-then-date-eq8
returns-then-date-eq8 c = rw (eq-eqb _ _ c.if-date-eq8.true) (c.day_number.ensures ∙ ap day_value_of c.read_date.ensures)

pub returns : goal.returns
returns c = rw (ne_eqb _ _ c.if-date-eq8.false)
