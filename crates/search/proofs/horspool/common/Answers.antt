-- `search::horspool::common` meets its contract. Assumes nothing.
use Rattle.std.proofs.Common.{◌∙◌, sym, arith}
use Rattle.search.proofs.Shifts.{agreed-none, agreed-stretch, agreed-rest, common-most}
use Rattle.search.proofs.horspool.common.Goals as goal

pub loop-at-init : goal.loop-at-init
loop-at-init c = (omega arith, agreed-none c.args.mark.now c.args.s.now)

pub loop-at-preserved : goal.loop-at-preserved
loop-at-preserved c =
    (omega arith, agreed-stretch c.args.mark.now c.args.s.now c.loop-at.at 16 (omega arith) (omega arith) (sym c.same_bytes.ensures ∙ c.if-not-same_bytes.false) c.loop-at.invariant.1)

pub returns : goal.returns
returns c = agreed-rest c.args.mark.now c.args.s.now c.loop-at.at c.common_single.result c.loop-at.invariant.1 c.common_single.ensures

pub overflow_add-result : goal.overflow_add-result
overflow_add-result c = omega (arith, returns c, common-most c.args.mark.now c.args.s.now)
