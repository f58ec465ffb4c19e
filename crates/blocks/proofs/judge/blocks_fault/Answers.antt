-- `blocks::judge::blocks_fault` meets its contract. The loop's invariant: the blocks before `i` have no fault. The measure: the
-- blocks left. Assumes nothing.
use Rattle.std.proofs.Common.{◌≡◌, ◌*◌, ◌<◌, length, sym, refl, ◌∙◌, arith, length-take}
use Rattle.std.proofs.lemmas.Result.{err_from_is_err_and}
use Rattle.metafile.specs.Refusals.{number_of}
use Rattle.metafile.specs.Below.{fault_below}
use Rattle.laws.proofs.Below.{fault-more, fault-first}
use Rattle.blocks.specs.Blocks.{fault_of}
use Rattle.lines.proofs.Runs.{refused}
use Rattle.blocks.proofs.Places.{block_inside, fault-is}
use Rattle.blocks.proofs.judge.blocks_fault.Goals as goal
use Rattle.blocks.proofs.judge.blocks_fault.Goals.{In-loop-i}

pub loop-i-init : goal.loop-i-init
unfolding fault_below
loop-i-init c = refl

inside : (c : In-loop-i) → 512 * c.loop-i.i < length c.args.x.now
inside c = block_inside c.args.x.now c.loop-i.i (omega (arith, c.requires.count_value, c.loop-i-test.true))

pub overflow_mul-from : goal.overflow_mul-from
overflow_mul-from c = omega (arith, inside c, c.requires.x_len_bound)

pub overflow_add-from : goal.overflow_add-from
overflow_add-from c = omega (arith, inside c, c.requires.x_len_bound)

pub slice_bounds-block_fault-count : goal.slice_bounds-block_fault-count
slice_bounds-block_fault-count c = omega (arith, inside (goal.at.slice_bounds-block_fault-count c).In-loop-i, c.min-end.ensures)

pub slice_bounds-block_fault-start : goal.slice_bounds-block_fault-start
slice_bounds-block_fault-start c = omega (arith, inside (goal.at.slice_bounds-block_fault-start c).In-loop-i, c.min-end.ensures)

pub slice_bounds-block_fault-end : goal.slice_bounds-block_fault-end
slice_bounds-block_fault-end c = omega (arith, inside (goal.at.slice_bounds-block_fault-end c).In-loop-i, c.min-end.ensures)

pub block_fault-requires : goal.block_fault-requires
block_fault-requires c = simp length-take (omega (arith, c.min-end.ensures))

pub returns-in_err-block_fault : goal.returns-in_err-block_fault
returns-in_err-block_fault c =
    let p = err_from_is_err_and c.from_residual.result c.from_residual.ensures.1 in
    let x = c.in_err-block_fault.field-0.0 in
    let turn : number_of x ≡ fault_of c.args.x.now c.loop-i.i =
    fault-is c.args.x.now c.loop-i.i c.args.count c.min-end.result _ c.requires.count_value c.min-end.ensures c.in_err-block_fault.ensures
    in
    rw (p.1, p.2) (turn ∙ fault-first _ _ c.loop-i.i c.loop-i-test.true c.loop-i.invariant (λ z. refused x (turn ∙ z)))

pub loop-i-preserved : goal.loop-i-preserved
loop-i-preserved c =
    fault-more _ c.loop-i.i c.loop-i.invariant
    (sym (fault-is c.args.x.now c.loop-i.i c.args.count c.min-end.result 0 c.requires.count_value c.min-end.ensures c.in_ok-block_fault.ensures))

pub returns : goal.returns
returns c =
    let l = c in
    let all : l.loop-i.i ≡ l.args.count = omega (arith, c.loop-i-test.false) in
    rw (← all) (sym l.loop-i.invariant)
