-- `sums::byte_sum` meets its contract. Assumes nothing.
use Rattle.std.proofs.Common.{refl, arith}
use Rattle.sums.proofs.Laws.{sum-none, sum_more, sum-whole}
use Rattle.sums.proofs.byte_sum.Goals as goal

pub loop-i-init : goal.loop-i-init
loop-i-init c = sum-none c.args.s.now

pub loop-i-preserved : goal.loop-i-preserved
loop-i-preserved c = sum_more c.args.s.now c.loop-i.i c.loop-i.acc _ (omega arith) c.loop-i.invariant refl

pub returns : goal.returns
returns c = sum-whole c.args.s.now c.loop-i.i c.loop-i.acc (omega arith) c.loop-i.invariant
