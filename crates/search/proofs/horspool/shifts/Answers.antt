-- `search::horspool::shifts` meets its contract. Assumes nothing.
use Rattle.std.proofs.Common.{refl, arith, length-set}
use Rattle.search.proofs.Shifts.{made_none, made-next, made_all}
use Rattle.search.proofs.horspool.shifts.Goals as goal

pub loop-i-init : goal.loop-i-init
loop-i-init c = (refl, made_none c.args.mark.now)

pub loop-i-preserved : goal.loop-i-preserved
loop-i-preserved c =
    let mark = c.args.mark.now in
    (simp length-set c.loop-i.invariant.0, rw c.from.ensures (made-next mark c.loop-i.i c.loop-i.table (omega arith) c.loop-i.invariant.0 (c.type_inv.mark c.loop-i.i).fits c.loop-i.invariant.1))

pub returns : goal.returns
returns c = made_all c.args.mark.now c.loop-i.i c.loop-i.table (omega arith) c.loop-i.invariant.1
