-- `directory::free` meets its contract. Assumes nothing.
use Rattle.directory.proofs.Laws.{free-is, free-none}
use Rattle.directory.proofs.free.Goals as goal

pub returns-in_err-steps : goal.returns-in_err-steps
returns-in_err-steps c =
    rw c.from_residual.ensures (free-none _ _ c.args.d.now _ 0 c.slot_for-from.ensures.0 c.requires c.in_err-steps.ensures)

pub returns : goal.returns
returns c = free-is _ _ c.args.d.now _ _ c.slot_for-from.ensures.0 c.in_ok-steps.ensures
