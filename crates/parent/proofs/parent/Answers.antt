-- `parent::parent` meets its contract. Assumes nothing.
use Prim.Native.Nat.{◌+◌, ◌*◌, ◌≤◌}
use mathlib.Core.Path.{ap, ◌∙◌}
use native.Mathlib.Omega.{arith}
use lib.ListN.{length}
use Rattle.std.proofs.lemmas.Result.{err_from_is_err_and}
use Rattle.metafile.specs.Bytes.{part}
use Rattle.walk.specs.Walk.{numbered_of}
use Rattle.walk.proofs.Index.{indexed-none}
use Rattle.walk.proofs.Named.{Named, named-goes, named-at, refused-later, earlier-place}
use Rattle.parent.proofs.Answers.{refused-row, refused-14, dependency-inside, Met, met, missing, answered}
use Rattle.parent.proofs.parent.Goals as goal
use Rattle.parent.proofs.parent.Goals.{Else-own-dependency, In-Some, In_ok-own}

pub row_of-requires : goal.row_of-requires
row_of-requires c = indexed-none _ 0

pub returns-in_err-middle : goal.returns-in_err-middle
returns-in_err-middle c =
    let p = err_from_is_err_and c.from_residual.result c.from_residual.ensures.1 in
    rw (p.1, p.2) (refused-row _ _ _ _ (refused-later _ _ _ c.sought_from-from.ensures _ c.in_err-middle.ensures.named))

pub returns-in_err-own : goal.returns-in_err-own
returns-in_err-own c =
    let p = err_from_is_err_and c.from_residual-in_err-own.result c.from_residual-in_err-own.ensures.1 in
    rw (p.1, p.2) (refused-row _ _ _ _ c.in_err-own.ensures.named)

own : (c : In_ok-own) → Named c.args.file.now c.args.row c.in_ok-own.own
own c = named-goes _ _ c.in_ok-own.ensures.named c.in_ok-own.ensures.goes

pub returns-then-own-dependency : goal.returns-then-own-dependency
returns-then-own-dependency c = refused-14 _ _ c.args.dependency c.in_ok-own.own (own (goal.at.returns-then-own-dependency c).In_ok-own) c.if-own-dependency.true

inside : (c : Else-own-dependency) → (c.in_ok-own.own.at + 568 + 344 * c.args.dependency) + 344 ≤ length c.args.file.now
inside c =
    dependency-inside _ _ _ c.in_ok-own.own (named-goes c.args.file.now c.args.row c.in_ok-own.ensures.named c.in_ok-own.ensures.goes) c.if-own-dependency.false

pub overflow_add-at : goal.overflow_add-at
overflow_add-at c = omega (arith, inside (goal.at.overflow_add-at c).Else-own-dependency, c.well_formed)

pub overflow_mul-at : goal.overflow_mul-at
overflow_mul-at c = omega (arith, inside (goal.at.overflow_mul-at c).Else-own-dependency, c.well_formed)

pub overflow_add-at-2 : goal.overflow_add-at-2
overflow_add-at-2 c = omega (arith, inside (goal.at.overflow_add-at-2 c).Else-own-dependency, c.well_formed)

pub overflow_add-at-3 : goal.overflow_add-at-3
overflow_add-at-3 c = omega (arith, inside (goal.at.overflow_add-at-3 c).Else-own-dependency, c.well_formed)

pub serial_at-serial-requires : goal.serial_at-serial-requires
serial_at-serial-requires c = omega (arith, inside (goal.at.serial_at-serial-requires c).Else-own-dependency)

pub row_with-requires : goal.row_with-requires
row_with-requires c =
    let w = own (goal.at.row_with-requires c).In_ok-own in
    let less = c.sought_from-from.ensures in
    record {
      at = named-at w c.in_ok-own.ensures.indexed;
      go_value = w.goes;
      m_le_row = omega (arith, w.row_is, less);
      place_value = earlier-place c.args.file.now c.sought_from-from.result c.args.row less c.in_ok-middle.middle c.in_ok-middle.ensures.named w;
    }

pub returns-in-None : goal.returns-in-None
returns-in-None c =
    let at = goal.at.returns-in-None c in
    missing _ _ _ _ (own at.In_ok-own) c.if-own-dependency.false (c.in-None.ensures ∙ ap (numbered_of c.args.file.now) c.serial_at-serial.ensures)

found : (c : In-Some) → Met c.args.file.now (part ((c.in_ok-own.own.at + 568 + 344 * c.args.dependency) + 25) 38 c.args.file.now) c.in-Some.found
found c = met _ _ c.in-Some.found (c.in-Some.ensures ∙ ap (numbered_of c.args.file.now) c.serial_at-serial.ensures)

pub overflow_add-subformat : goal.overflow_add-subformat
overflow_add-subformat c =
    let w = found (goal.at.overflow_add-subformat c).In-Some in omega (arith, w.lies.dependencies-inside, w.place-is, c.well_formed)

pub overflow_add-at-in-Some : goal.overflow_add-at-in-Some
overflow_add-at-in-Some c = omega (arith, inside (goal.at.overflow_add-at-in-Some c).Else-own-dependency, c.well_formed)

pub agree-requires : goal.agree-requires
agree-requires c =
    let at = goal.at.agree-requires c in
    let w = found at.In-Some in
    record { a_in_bounds = omega (arith, inside at.Else-own-dependency); b_in_bounds = omega (arith, w.lies.dependencies-inside, w.place-is) }

pub returns-in-Some : goal.returns-in-Some
returns-in-Some c =
    let at = goal.at.returns-in-Some c in
    answered _ _ _ _ (own at.In_ok-own) c.if-own-dependency.false c.in-Some.found (found at.In-Some) _ c.agree.ensures
