-- `fields::offsets::is_seconds` meets its contract. Assumes nothing.
use mathlib.Core.Path.{ap}
use native.Mathlib.Omega.{arith}
use lib.ListN.{length}
use Rattle.fields.proofs.Prefix.{count-le, first-length}
use Rattle.fields.proofs.Decimal.{before-le, before-taken, parts-few, seconds-formed}
use Rattle.fields.proofs.offsets.is_seconds.Goals as goal

pub slice_bounds-point_passed-count : goal.slice_bounds-point_passed-count
slice_bounds-point_passed-count c = count-le _ _ _ c.leading-before.ensures

pub slice_bounds-point_passed-start : goal.slice_bounds-point_passed-start
slice_bounds-point_passed-start c = count-le _ _ _ c.leading-before.ensures

pub overflow_add-result : goal.overflow_add-result
overflow_add-result c =
    let u = c in
    let n = u in
    let b = n in
    let few = parts-few b.args.s.now n.after-t.result.now n.leading-before.result n.after-t.ensures n.leading-before.ensures
    u.point_passed-u.result.now u.point_passed-u.ensures c.leading-behind.result c.leading-behind.ensures in
    omega (arith, few, b.requires)

pub slice_bounds-only_spaces-count : goal.slice_bounds-only_spaces-count
slice_bounds-only_spaces-count c = count-le _ _ _ c.leading-behind.ensures

pub slice_bounds-only_spaces-start : goal.slice_bounds-only_spaces-start
slice_bounds-only_spaces-start c = count-le _ _ _ c.leading-behind.ensures

pub slice_bounds-number-end : goal.slice_bounds-number-end
slice_bounds-number-end c = first-length _ _ _ c.leading-before.ensures

pub number-requires : goal.number-requires
number-requires c =
    let n = c in
    let b = n in
    omega (
      arith,
      ap length (before-taken b.args.s.now n.after-t.result.now n.leading-before.result n.after-t.ensures n.leading-before.ensures),
      before-le b.args.s.now,
      b.requires,
    )

pub returns : goal.returns
returns c =
    let k = c in
    let u = k in
    let n = u in
    let b = n in
    seconds-formed b.args.s.now n.after-t.result.now n.leading-before.result n.after-t.ensures n.leading-before.ensures
    u.point_passed-u.result.now u.point_passed-u.ensures k.leading-behind.result k.leading-behind.ensures b.requires
    c.only_spaces.result c.only_spaces.ensures c.number.result c.number.ensures
