-- `blocks::numbers::block_sum` meets its contract. The loop's invariant: `acc` is the sum of the bytes before the one reached.
-- Assumes nothing.
use Rattle.std.proofs.Common.{◌≡◌, take}
use Rattle.blocks.specs.Blocks.{block_sum}
use Rattle.blocks.proofs.numbers.block_sum.Given as goal

abbrev pub invariant-loop-b : goal.invariant-loop-b
invariant-loop-b l = l.acc ≡ block_sum (take l.b-index l.s)
