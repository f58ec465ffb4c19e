-- `writer::parents::parents_wrong` meets its contract. The loop's invariant: no row before `i` is refused. Assumes nothing.
use mathlib.Core.Path.{◌≡◌}
use lib.ListN.{drop}
use Rattle.writer.specs.Parents.{parents_refused}
use Rattle.writer.proofs.Named.{some_wrong}
use Rattle.writer.proofs.parents.parents_wrong.Given as goal

abbrev pub invariant-loop-i : goal.invariant-loop-i
invariant-loop-i l = parents_refused l.n l.parents ≡ some_wrong l.n (drop l.i l.parents)
