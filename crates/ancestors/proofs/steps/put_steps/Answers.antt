-- `ancestors::steps::put_steps` meets its contract. Assumes nothing.
use Rattle.ancestors.proofs.Tabling.{stepping-none, stepping-more}
use Rattle.ancestors.proofs.steps.put_steps.Goals as goal

pub loop-row-init : goal.loop-row-init
loop-row-init c = stepping-none c.requires.noted c.requires.table_value

pub loop-row-preserved : goal.loop-row-preserved
loop-row-preserved c =
    let w = c.loop-row.invariant in
    stepping-more w c.loop-row-test.true _ c.put_row-missing.ensures.0 (rw w.long at c.put_row-missing.ensures.1)
