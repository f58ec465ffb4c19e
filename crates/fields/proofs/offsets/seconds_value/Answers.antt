-- `fields::offsets::seconds_value` meets its contract. Assumes nothing.
use mathlib.Core.Path.{◌≡◌, ap, ◌∙◌}
use native.Mathlib.Omega.{arith}
use lib.ListN.{length, take}
use Rattle.metafile.specs.Fields.{number, second, digits_before, digits_behind}
use Rattle.fields.proofs.Prefix.{count-le, first-length}
use Rattle.fields.proofs.Decimal.{before-le, behind-short, before-taken, behind-taken, whole_le, decimal-value}
use Rattle.fields.proofs.offsets.seconds_value.Goals as goal
use Rattle.fields.proofs.offsets.seconds_value.Goals.{After-digits-behind, After-leading-before}

-- the two runs of digits
before : (c : After-leading-before) → take c.leading-before.result c.after-t.result.now ≡ digits_before c.args.s.now
before c = before-taken c.args.s.now _ _ c.after-t.ensures c.leading-before.ensures

behind : (c : After-digits-behind) → c.digits-behind.result.now ≡ digits_behind c.args.s.now
behind c =
    let u = c in
    let n = u in
    c.digits-behind.ensures
    ∙ behind-taken n.args.s.now _ _ n.after-t.ensures n.leading-before.ensures _ u.point_passed.ensures

pub slice_bounds-point_passed-count : goal.slice_bounds-point_passed-count
slice_bounds-point_passed-count c = count-le _ _ _ c.leading-before.ensures

pub slice_bounds-point_passed-start : goal.slice_bounds-point_passed-start
slice_bounds-point_passed-start c = count-le _ _ _ c.leading-before.ensures

pub slice_bounds-number-end : goal.slice_bounds-number-end
slice_bounds-number-end c = first-length _ _ _ c.leading-before.ensures

pub number-requires : goal.number-requires
number-requires c =
    let n = c in
    omega (arith, ap length (before (goal.at.number-requires c).After-leading-before), before-le n.args.s.now, n.requires.s_len)

pub overflow_mul-result : goal.overflow_mul-result
unfolding second
overflow_mul-result c =
    let n = c in
    let b = n in
    omega (arith, whole_le b.args.s.now b.requires.s_len c.number.result (c.number.ensures ∙ ap number (before (goal.at.overflow_mul-result c).After-leading-before)), b.requires.s_bound)

pub number-requires-2 : goal.number-requires-2
number-requires-2 c =
    let b = c in
    omega (arith, ap length (behind (goal.at.number-requires-2 c).After-digits-behind), behind-short b.args.s.now, b.requires.s_len)

pub overflow_sub-result : goal.overflow_sub-result
overflow_sub-result c =
    let b = c in
    omega (arith, ap length (behind (goal.at.overflow_sub-result c).After-digits-behind), behind-short b.args.s.now, b.requires.s_len)

pub returns : goal.returns
returns c =
    let k = c in
    let n = k in
    let b = n in
    decimal-value b.args.s.now b.requires.s_len c.number.result (c.number.ensures ∙ ap number (before (goal.at.returns c).After-leading-before))
    c.number-2.result k.digits-behind.result.now (behind (goal.at.returns c).After-digits-behind) c.number-2.ensures

pub overflow_mul-result-2 : goal.overflow_mul-result-2
unfolding second
overflow_mul-result-2 c = omega (arith, returns c)

pub overflow_add-result : goal.overflow_add-result
unfolding second
overflow_add-result c = omega (arith, returns c)
