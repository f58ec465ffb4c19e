-- `ancestors::steps::put_steps` meets its contract. Assumes nothing.
use Rattle.std.proofs.Common.{length}
use Rattle.ancestors.proofs.Tabling.{Stepping}
use Rattle.ancestors.proofs.steps.put_steps.Given as goal

abbrev pub invariant-loop-row : goal.invariant-loop-row
invariant-loop-row l = Stepping l.file (length l.initial.rows) l.row l.initial.rows l.rows l.table
