-- `writer::parents::parents_wrong` meets its contract. Assumes nothing.
use Rattle.std.proofs.Common.{◌∙◌, arith}
use Rattle.writer.proofs.Named.{many, few, not_there, twice, wrong-next, wrong-end, named_again}
use Rattle.writer.proofs.parents.parents_wrong.Goals as goal
use Rattle.writer.proofs.parents.parents_wrong.Goals.{then-n-k-via-then-n-k, then-n-k-via-else-n-k+then-contains}

pub returns-then-parents-gt16 : goal.returns-then-parents-gt16
returns-then-parents-gt16 c = many c.args.n c.args.parents.now c.if-parents-gt16.true

pub loop-i-init : goal.loop-i-init
loop-i-init c = few c.args.n c.args.parents.now c.if-parents-gt16.false

pub returns-then-n-k : goal.returns-then-n-k
returns-then-n-k c =
    let inside = c.loop-i-test.true in
    elim c.then-n-k.branch [
      | then-n-k-via-then-n-k w ↦ not_there c.args.n c.args.parents.now c.loop-i.i _ c.loop-i.invariant (omega arith) w.if-n-k.true
      | then-n-k-via-else-n-k+then-contains w ↦ twice c.args.n c.args.parents.now c.loop-i.i _ c.loop-i.invariant (omega arith) (named_again c.args.parents.now c.loop-i.i _ _ w.contains.ensures.value ∙ w.if-contains.true)
    ]

pub loop-i-preserved : goal.loop-i-preserved
loop-i-preserved c =
    let inside = c.loop-i-test.true in
    wrong-next c.args.n c.args.parents.now c.loop-i.i _ c.loop-i.invariant (omega arith) c.if-n-k.false (named_again c.args.parents.now c.loop-i.i _ _ c.contains.ensures.value ∙ c.if-contains.false)

pub returns : goal.returns
returns c = wrong-end c.args.n c.args.parents.now c.loop-i.i _ c.loop-i.invariant (omega arith)
