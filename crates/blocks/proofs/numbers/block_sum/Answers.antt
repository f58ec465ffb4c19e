-- `blocks::numbers::block_sum` meets its contract. Assumes nothing.
use Rattle.std.proofs.Common.{ap, ◌∙◌, arith, take_all}
use Rattle.blocks.specs.Blocks.{block_sum}
use Rattle.blocks.proofs.BigEndian.{sum-none, sum_more}
use Rattle.blocks.proofs.numbers.block_sum.Goals as goal

pub loop-b-init : goal.loop-b-init
loop-b-init c = sum-none c.args.s.now

pub loop-b-preserved : goal.loop-b-preserved
loop-b-preserved c = sum_more c.args.s.now c.loop-b.b-index c.loop-b.acc _ (omega arith) c.loop-b.invariant (rw c.from-acc.ensures)

pub returns : goal.returns
returns c = c.loop-b.invariant ∙ ap block_sum (take_all c.loop-b.b-index c.args.s.now (omega arith))
