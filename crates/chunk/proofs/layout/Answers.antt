-- `chunk::layout` meets its contract. Assumes nothing.
use Rattle.chunk.specs.Layout.{faulty}
use Rattle.chunk.proofs.layout.Goals as goal

pub returns-in-Err : goal.returns-in-Err
unfolding faulty
returns-in-Err c = rw c.number.ensures c.in-Err.ensures
