-- `ancestors::lists::is_listed` meets its contract. Assumes nothing.
use Rattle.std.proofs.Common.{rules, ne_eqb}
use Rattle.ancestors.specs.Lists.{is_listed}
use Rattle.ancestors.proofs.Marked.{marked-is}
use Rattle.ancestors.proofs.lists.is_listed.Goals as goal

pub returns-then-other : goal.returns-then-other
unfolding is_listed
returns-then-other c = rw (ne_eqb c.args.i c.args.row c.if-other.true) (marked-is _ _ _ c.eq.ensures)

pub returns-else-other : goal.returns-else-other
unfolding is_listed
returns-else-other c = search rules
