-- `multi::types::type_fault` meets its contract. Assumes nothing.
use Prim.Native.Nat.{◌-◌}
use mathlib.Core.Path.{sym, ◌∙◌}
use native.Mathlib.Omega.{arith}
use Rattle.std.proofs.lemmas.Result.{err_from_is_err_and}
use Rattle.laws.proofs.Stages.{stop, go}
use Rattle.lines.proofs.Runs.{refused}
use Rattle.multi.proofs.TypeStages.{type-stages, names-place, long-enough, rest-place, type-repeated, type-passed}
use Rattle.multi.proofs.types.type_fault.Goals as goal

pub returns-in_err-type_length_fault : goal.returns-in_err-type_length_fault
returns-in_err-type_length_fault c =
    let p = err_from_is_err_and c.from_residual.result c.from_residual.ensures.1 in
    rw (p.1, p.2) (stop _ _ _ c.in_err-type_length_fault.ensures (refused _) ∙ sym (type-stages c.args.last c.args.announced (c.args.at - 65) c.args.ids.now c.args.at c.args.r.now))

pub type_names_fault-requires : goal.type_names_fault-requires
type_names_fault-requires c = names-place c.args.at c.args.r.now _ _ _ (sym c.in_ok-type_length_fault.ensures) (omega arith)

pub returns-in_err-type_names_fault : goal.returns-in_err-type_names_fault
returns-in_err-type_names_fault c =
    let p = err_from_is_err_and c.from_residual-in_err-type_names_fault.result c.from_residual-in_err-type_names_fault.ensures.1 in
    rw (p.1, p.2) (go _ _ _ (sym c.in_ok-type_length_fault.ensures) (stop _ _ _ c.in_err-type_names_fault.ensures (refused _)) ∙ sym (type-stages c.args.last c.args.announced (c.args.at - 65) c.args.ids.now c.args.at c.args.r.now))

pub slice_bounds-is_kept-end : goal.slice_bounds-is_kept-end
slice_bounds-is_kept-end c = rest-place c.args.at c.args.r.now _ _ _ (sym c.in_ok-type_length_fault.ensures) (sym c.in_ok-type_names_fault.ensures) (omega arith)

pub returns-then-is_kept : goal.returns-then-is_kept
returns-then-is_kept c =
    type-repeated c.args.at c.args.r.now _ _ _ (sym c.in_ok-type_length_fault.ensures) (sym c.in_ok-type_names_fault.ensures)
    _ c.is_kept.ensures c.if-is_kept.true

pub length_at-requires : goal.length_at-requires
length_at-requires c =
    omega (arith, rest-place c.args.at c.args.r.now _ _ _ (sym c.in_ok-type_length_fault.ensures) (sym c.in_ok-type_names_fault.ensures) (omega arith))

pub overflow_sub-length_at : goal.overflow_sub-length_at
overflow_sub-length_at c =
    long-enough c.args.at c.args.r.now _ _ _ (sym c.in_ok-type_length_fault.ensures) _ c.length_at.ensures

pub type_rest_fault-requires : goal.type_rest_fault-requires
type_rest_fault-requires c = rest-place c.args.at c.args.r.now _ _ _ (sym c.in_ok-type_length_fault.ensures) (sym c.in_ok-type_names_fault.ensures) (omega arith)

pub returns : goal.returns
returns c =
    type-passed c.args.at c.args.r.now _ _ _ (sym c.in_ok-type_length_fault.ensures) (sym c.in_ok-type_names_fault.ensures)
    _ c.is_kept.ensures _ _ c.if-is_kept.false
    c.length_at.ensures c.type_rest_fault.ensures
