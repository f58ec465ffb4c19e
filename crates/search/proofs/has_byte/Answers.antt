-- `search::has_byte` meets its contract. Assumes nothing.
use Rattle.std.proofs.Common.{arith}
use Rattle.search.proofs.Laws.{any-begin, any_next, any-end}
use Rattle.search.proofs.has_byte.Goals as goal

pub loop-i-init : goal.loop-i-init
loop-i-init c = any-begin c.args.b c.args.s.now

pub loop-i-preserved : goal.loop-i-preserved
loop-i-preserved c = any_next c.args.b c.args.s.now c.loop-i.i c.loop-i.found (omega arith) c.loop-i.invariant

pub returns : goal.returns
returns c = any-end c.args.b c.args.s.now c.loop-i.i c.loop-i.found (omega arith) c.loop-i.invariant
