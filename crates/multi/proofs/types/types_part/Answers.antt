-- `multi::types::types_part` meets its contract. The loop: the types from the place 65 on have the
-- faults, the end and the short IDs of those left, behind those kept. Assumes nothing.
use mathlib.Core.Path.{refl}
use native.Mathlib.Omega.{arith}
use lib.ListN.{drop}
use Rattle.std.proofs.Common.{rules}
use Rattle.std.proofs.lemmas.Result.{err_from_is_err_and}
use Rattle.lines.proofs.Runs.{refused}
use Rattle.metafile.specs.Multi.{multi_length}
use Rattle.multi.proofs.TypeWalk.{walk-stops, type-least, this-fits, walk-next, walk-faults, walk_ends, walk-declared}
use Rattle.multi.proofs.Contents.{part-stopped, part-taken}
use Rattle.multi.proofs.types.types_part.Goals as goal

pub returns-in_err-type_fault-clause-value : goal.returns-in_err-type_fault-clause-value
unfolding multi_length
returns-in_err-type_fault-clause-value c =
    let p = err_from_is_err_and c.from_residual.result c.from_residual.ensures.1 in
    rw (p.1, p.2)
    (part-stopped _ _ _
    (walk-stops c.loop-i.invariant (omega arith) c.length_at-announced.ensures
    c.in_err-type_fault.ensures (refused _)))

pub returns-in_err-type_fault-clause-ids_after : goal.returns-in_err-type_fault-clause-ids_after
returns-in_err-type_fault-clause-ids_after c =
    let p = err_from_is_err_and c.from_residual.result c.from_residual.ensures.1 in
    rw p.1 (λ z. absurd (refused _ z))

pub slice_bounds-copy_from_slice-end-in-loop-i : goal.slice_bounds-copy_from_slice-end-in-loop-i
unfolding multi_length
slice_bounds-copy_from_slice-end-in-loop-i c =
    let fits = this-fits c.loop-i.invariant (omega arith)
    c.length_at-announced.ensures c.in_ok-type_fault.ensures refl in
    omega (arith, type-least (drop c.loop-i.at c.args.r.now))

pub type_bytes-at-requires : goal.type_bytes-at-requires
unfolding multi_length
type_bytes-at-requires c =
    this-fits c.loop-i.invariant (omega arith)
    c.length_at-announced.ensures c.in_ok-type_fault.ensures refl

pub overflow_add-at-in-loop-i-2 : goal.overflow_add-at-in-loop-i-2
unfolding multi_length
overflow_add-at-in-loop-i-2 c =
    omega (
      arith,
      this-fits c.loop-i.invariant (omega arith)
          c.length_at-announced.ensures c.in_ok-type_fault.ensures refl,
      c.type_bytes-at.ensures,
    )

pub loop-i-preserved : goal.loop-i-preserved
unfolding multi_length
loop-i-preserved c =
    walk-next c.loop-i.invariant (omega arith)
    c.length_at-announced.ensures c.in_ok-type_fault.ensures refl
    _ _ c.type_bytes-at.ensures (search rules) (omega arith)

pub returns-clause-value : goal.returns-clause-value
returns-clause-value c =
    part-taken _ _ _ (walk-faults c.loop-i.invariant (omega arith)) (walk_ends c.loop-i.invariant (omega arith))

pub returns-clause-ids_after : goal.returns-clause-ids_after
returns-clause-ids_after c = λ z. walk-declared c.loop-i.invariant (omega arith) (omega arith)
