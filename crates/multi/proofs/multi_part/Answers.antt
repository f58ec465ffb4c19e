-- `multi::multi_part` meets its contract. Assumes nothing.
use mathlib.Core.Path.{refl, sym}
use native.Mathlib.Omega.{arith}
use lib.ListN.{length-take}
use Rattle.std.proofs.lemmas.Result.{err_from_is_err_and}
use Rattle.multi.proofs.TypeStages.{head-fits}
use Rattle.multi.proofs.Contents.{head-most, kept-declared, multi-head, multi-types, place_inside, texts-kept, multi-first, multi-minis}
use Rattle.multi.proofs.multi_part.Goals as goal

pub returns-in_err-head_fault : goal.returns-in_err-head_fault
returns-in_err-head_fault c =
    let p = err_from_is_err_and c.from_residual.result c.from_residual.ensures.1 in
    rw (p.1, p.2) (multi-head c.args.r.now _ c.in_err-head_fault.ensures)

pub type_count-n-requires : goal.type_count-n-requires
type_count-n-requires c = omega (arith, head-fits c.args.r.now (sym c.in_ok-head_fault.ensures))

pub types_part-requires-clause-r_in_bounds : goal.types_part-requires-clause-r_in_bounds
types_part-requires-clause-r_in_bounds c = head-fits c.args.r.now (sym c.in_ok-head_fault.ensures)

pub types_part-requires-clause-ids_len : goal.types_part-requires-clause-ids_len
types_part-requires-clause-ids_len c =
    omega (arith, head-most c.args.r.now (sym c.in_ok-head_fault.ensures), c.type_count-n.ensures)

pub returns-in_err-at : goal.returns-in_err-at
returns-in_err-at c =
    let p = err_from_is_err_and c.from_residual-in_err-at.result c.from_residual-in_err-at.ensures.1 in
    rw (p.1, p.2) (multi-types c.args.r.now (sym c.in_ok-head_fault.ensures) _ (rw c.type_count-n.ensures at c.in_err-at.ensures.value))

pub first_fault-requires : goal.first_fault-requires
first_fault-requires c = place_inside c.args.r.now (sym c.in_ok-head_fault.ensures) _ (rw c.type_count-n.ensures at c.in_ok-at.ensures.value)

pub returns-in_err-first_fault : goal.returns-in_err-first_fault
returns-in_err-first_fault c =
    let p = err_from_is_err_and c.from_residual-in_err-first_fault.result c.from_residual-in_err-first_fault.ensures.1 in
    rw (p.1, p.2) (multi-first c.args.r.now (sym c.in_ok-head_fault.ensures) _ (rw c.type_count-n.ensures at c.in_ok-at.ensures.value) _ c.in_err-first_fault.ensures)

pub slice_bounds-ids-end : goal.slice_bounds-ids-end
slice_bounds-ids-end c =
    omega (
      arith,
      head-most c.args.r.now (sym c.in_ok-head_fault.ensures),
      c.type_count-n.ensures,
      c.types_part.auto.ids,
    )

pub slice_bounds-minis_part-end : goal.slice_bounds-minis_part-end
slice_bounds-minis_part-end c =
    omega (
      arith,
      head-most c.args.r.now (sym c.in_ok-head_fault.ensures),
      c.type_count-n.ensures,
      c.types_part.auto.ids,
      length-take c.type_count-n.result c.types_part.new.ids,
    )

pub minis_part-requires-clause-start_in_bounds : goal.minis_part-requires-clause-start_in_bounds
minis_part-requires-clause-start_in_bounds c =
    place_inside c.args.r.now (sym c.in_ok-head_fault.ensures) _ (rw c.type_count-n.ensures at c.in_ok-at.ensures.value)

pub minis_part-requires-clause-text_ids : goal.minis_part-requires-clause-text_ids
minis_part-requires-clause-text_ids c =
    texts-kept c.args.r.now (sym c.in_ok-head_fault.ensures) _ (rw c.type_count-n.ensures at c.in_ok-at.ensures.value)
    _ (kept-declared c.args.r.now c.type_count-n.ensures (c.in_ok-at.ensures.ids_after refl))

pub returns : goal.returns
returns c =
    multi-minis c.args.r.now (sym c.in_ok-head_fault.ensures) _ (rw c.type_count-n.ensures at c.in_ok-at.ensures.value)
    _ _ c.in_ok-first_fault.ensures (kept-declared c.args.r.now c.type_count-n.ensures (c.in_ok-at.ensures.ids_after refl)) c.minis_part.ensures
