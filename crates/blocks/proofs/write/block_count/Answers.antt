-- `blocks::write::block_count` meets its contract. Assumes nothing.
use Rattle.std.proofs.Common.{arith}
use Rattle.blocks.specs.Blocks.{block_count}
use Rattle.blocks.proofs.write.block_count.Goals as goal

pub returns-then-n-eq0 : goal.returns-then-n-eq0
unfolding block_count
returns-then-n-eq0 c = (omega arith, omega arith)

pub returns : goal.returns
unfolding block_count
returns c = (omega arith, omega arith)
