-- `fields::dates::month_start` meets its contract. Assumes nothing.
use Rattle.fields.proofs.Days.{start, start_fits, month-start}
use Rattle.fields.proofs.dates.month_start.Goals as goal

pub overflow_add-result : goal.overflow_add-result
unfolding start
overflow_add-result c = rw c.from.ensures (start_fits c.leap.result c.args.month c.requires)

pub returns : goal.returns
unfolding start
returns c = rw c.from.ensures (month-start c.args.year c.args.month c.leap.result c.requires c.leap.ensures)
