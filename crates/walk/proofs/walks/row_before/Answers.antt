-- `walk::walks::row_before` meets its contract. Assumes nothing.
use mathlib.Core.Path.{◌∙◌}
use Rattle.walk.proofs.Sources.{at_first}
use Rattle.walk.proofs.Loops.{between-late, between-early}
use Rattle.walk.proofs.walks.row_before.Goals as goal

pub returns-in-Ok : goal.returns-in-Ok
returns-in-Ok c = between-late c.args.serial _ c.args.m c.args.i c.requires.m_le_i c.in-Ok.late c.in-Ok.ensures

pub row_between-requires-in-Err-clause-place_value : goal.row_between-requires-in-Err-clause-place_value
row_between-requires-in-Err-clause-place_value c = at_first c.args.source

pub returns-in-Err : goal.returns-in-Err
returns-in-Err c = c.or.ensures ∙ rw c.row_between-in-Err.ensures (between-early c.args.serial _ c.args.m c.args.i c.requires.m_le_i c.in-Err.end c.in-Err.ensures)
