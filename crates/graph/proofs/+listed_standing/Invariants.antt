-- The measure of `standing` is twice the number of unvisited rows, and that of `listed` is one more: `standing` visits a row
-- before it asks `listed`, and `listed` asks `standing` with no more unvisited rows than it was given. Assumes nothing.
use Rattle.std.proofs.Common.{◌+◌, ◌*◌}
use Rattle.graph.specs.Graph.{unvisited, ListDone}
use Rattle.graph.proofs.+listed_standing.Given as goal

abbrev pub decreases-listed : goal.decreases-listed
decreases-listed l = 2 * unvisited l.marks.now + 1

abbrev pub decreases-standing : goal.decreases-standing
decreases-standing l = 2 * unvisited l.marks.now

abbrev pub invariant-listed-loop-b : goal.invariant-listed-loop-b
invariant-listed-loop-b l = ListDone l.table l.n l.row l.b l.initial.marks l.marks
