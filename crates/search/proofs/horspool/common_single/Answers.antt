-- `search::horspool::common_single` meets its contract. Assumes nothing.
use Rattle.std.proofs.Common.{arith}
use Rattle.search.proofs.Shifts.{agreed-next, agreed-stop, agreed-all}
use Rattle.search.proofs.horspool.common_single.Goals as goal

pub returns-then-s-i : goal.returns-then-s-i
returns-then-s-i c = agreed-stop c.args.mark.now c.args.s.now c.loop-i.i (omega arith) (omega arith) c.if-s-i.true c.loop-i.invariant

pub loop-i-preserved : goal.loop-i-preserved
loop-i-preserved c = agreed-next c.args.mark.now c.args.s.now c.loop-i.i (omega arith) (omega arith) c.if-s-i.false c.loop-i.invariant

pub returns : goal.returns
returns c = omega (arith, agreed-all c.args.mark.now c.args.s.now c.loop-i.i (omega arith) c.loop-i.invariant)
