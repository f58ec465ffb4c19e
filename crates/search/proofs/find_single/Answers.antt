-- `search::find_single` meets its contract. Assumes nothing.
use Rattle.std.proofs.Common.{[], ◌∷◌, arith}
use Rattle.search.proofs.Laws.{passed-end, byte-here, byte-not}
use Rattle.search.proofs.find_single.Goals as goal

pub returns-then-x-b : goal.returns-then-x-b
returns-then-x-b c = byte-here c.args.b c.args.s.now c.loop-i.i (omega arith) c.if-x-b.true c.loop-i.invariant

pub loop-i-preserved : goal.loop-i-preserved
loop-i-preserved c = byte-not c.args.b c.args.s.now c.loop-i.i (omega arith) c.if-x-b.false c.loop-i.invariant

pub returns : goal.returns
returns c = omega (arith, passed-end (c.args.b ∷ []) c.args.s.now c.loop-i.i (omega arith) c.loop-i.invariant)
