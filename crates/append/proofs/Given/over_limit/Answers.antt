-- `append::Given::over_limit` meets its contract. Assumes nothing.
use Rattle.metafile.specs.Append.{append_over_limit}
use Rattle.append.proofs.Given.over_limit.Goals as goal

pub returns-then-over_limit : goal.returns-then-over_limit
unfolding append_over_limit
returns-then-over_limit c = rw (← c.over_limit.ensures, c.if-over_limit.true)

pub returns-else-over_limit : goal.returns-else-over_limit
unfolding append_over_limit
returns-else-over_limit c = rw (← c.over_limit.ensures, c.if-over_limit.false)
