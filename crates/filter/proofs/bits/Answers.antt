-- `filter::bits` meets its contract. Assumes nothing.
use Rattle.filter.proofs.Loops.{bits_are}
use Rattle.filter.proofs.bits.Goals as goal

pub returns : goal.returns
returns c = bits_are c.args.n
