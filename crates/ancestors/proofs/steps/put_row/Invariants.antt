-- `ancestors::steps::put_row` meets its contract. Assumes nothing.
use Rattle.std.proofs.Common.{length}
use Rattle.ancestors.proofs.Tabling.{Tabling}
use Rattle.ancestors.proofs.steps.put_row.Given as goal

abbrev pub invariant-loop-j : goal.invariant-loop-j
invariant-loop-j l = Tabling l.file (length l.rows) l.row l.j l.missing l.table
