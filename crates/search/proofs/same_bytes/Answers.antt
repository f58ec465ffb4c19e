-- `search::same_bytes` meets its contract. Assumes nothing.
use Rattle.std.proofs.Common.{arith}
use Rattle.search.proofs.Laws.{same-lengths, all-begin, all-next, all_end}
use Rattle.search.proofs.same_bytes.Goals as goal

pub returns-then-a-b : goal.returns-then-a-b
returns-then-a-b c = same-lengths c.args.a.now c.args.b.now c.if-a-b.true

pub loop-i-init : goal.loop-i-init
loop-i-init c = all-begin c.args.a.now c.args.b.now

pub loop-i-preserved : goal.loop-i-preserved
loop-i-preserved c =
    all-next c.args.a.now c.args.b.now c.loop-i.i c.loop-i.good (omega arith) (omega arith) c.loop-i.invariant

pub returns : goal.returns
returns c = all_end c.args.a.now c.args.b.now c.loop-i.i c.loop-i.good (omega arith) (omega arith) c.loop-i.invariant
