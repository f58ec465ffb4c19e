-- `ancestors::lists::missing` meets its contract. Assumes nothing.
use Rattle.std.proofs.Common.{◌≡◌, length}
use Rattle.ancestors.specs.Lists.{marked_sum}
use Rattle.ancestors.proofs.lists.missing.Given as goal

abbrev pub invariant-loop-mark : goal.invariant-loop-mark
invariant-loop-mark l = l.sum ≡ marked_sum l.marks l.rows (length l.yielded)
