-- `multi::gather::is_declared` meets its contract. Assumes nothing.
use Prim.Native.Nat.{◌+◌}
use native.Mathlib.Omega.{arith}
use lib.ListN.{drop}
use Rattle.laws.proofs.Stages.{compared}
use Rattle.multi.proofs.TypeWalk.{type-least, place-fits, place-past, left-begins, left-fits, left-here, left-next, left-none}
use Rattle.multi.proofs.gather.is_declared.Goals as goal

pub type_count-end-requires : goal.type_count-end-requires
type_count-end-requires c =
    omega (arith, place-fits c.args.r.now c.requires.r_value, place-past c.args.r.now)

pub loop-init : goal.loop-init
loop-init c = left-begins c.args.id.now c.args.r.now _ c.requires.r_value c.type_count-end.ensures

pub slice_bounds-same_bytes-end : goal.slice_bounds-same_bytes-end
slice_bounds-same_bytes-end c =
    omega (arith, left-fits c.loop.invariant (omega arith), type-least (drop c.loop.at c.args.r.now))

pub returns-then-same_bytes : goal.returns-then-same_bytes
returns-then-same_bytes c =
    left-here c.loop.invariant (omega arith)
    (compared _ _ c.args.id.now (c.loop.at + 324) _ 10 c.args.r.now c.same_bytes.ensures (omega arith)
    c.if-same_bytes.true)

pub type_bytes-at-requires : goal.type_bytes-at-requires
type_bytes-at-requires c = left-fits c.loop.invariant (omega arith)

pub overflow_add-at-in-loop-2 : goal.overflow_add-at-in-loop-2
overflow_add-at-in-loop-2 c =
    omega (arith, left-fits c.loop.invariant (omega arith), c.type_bytes-at.ensures)

pub loop-preserved : goal.loop-preserved
loop-preserved c =
    left-next c.loop.invariant (omega arith) c.type_bytes-at.ensures
    (compared _ _ c.args.id.now (c.loop.at + 324) _ 10 c.args.r.now c.same_bytes.ensures (omega arith)
    c.if-same_bytes.false)

pub returns : goal.returns
returns c = left-none c.loop.invariant (omega arith)
