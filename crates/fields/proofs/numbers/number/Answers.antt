-- `fields::numbers::number` meets its contract. Assumes nothing.
use Prim.Native.Nat.{◌+◌, ◌-◌, ◌*◌, ◌^◌, ◌≤◌, ◌<◌}
use mathlib.Core.Path.{◌≡◌, ap, ◌∙◌}
use native.Mathlib.Omega.{arith}
use lib.ListN.{length}
use Rattle.std.proofs.lemmas.List.{length_push}
use Rattle.metafile.specs.Fields.{number}
use Rattle.fields.proofs.Digits.{small-more, small-fits, power_le, power_at, number-last, number_none}
use Rattle.fields.proofs.numbers.number.Goals as goal
use Rattle.fields.proofs.numbers.number.Goals.{After-digit}

pub loop-x-init : goal.loop-x-init
loop-x-init c =
    let e : c.into_iter-x-iterator.result.iter.rest.now ≡ c.args.s.now = cc in
    let l : length c.into_iter-x-iterator.result.iter.rest.now ≡ length c.args.s.now = ap length e in
    let n : length c.args.s.now - length c.into_iter-x-iterator.result.iter.rest.now ≡ 0 = omega arith in
    record {
      within = omega arith;
      power_is = rw n;
      small = omega arith;
      value_is = omega (arith, ap number e);
    }

-- one byte less at a turn, and the power and the sum there
shorter : (c : After-digit) → length c.loop-x.x-iterator.iter.rest.now ≡ length c.next.new.self.iter.rest.now + 1
shorter c = ap length c.in-Some.ensures.steps ∙ length_push _ _

power_before : (c : After-digit) → c.loop-x.power ≡ 10 ^ (length c.args.s.now - (length c.next.new.self.iter.rest.now + 1))
power_before c = rw (shorter c) at c.loop-x.invariant.power_is

power_small : (c : After-digit) → c.loop-x.power ≤ 10 ^ 11
power_small c = power_le _ _ (omega arith) (power_before c)

sum_fits : (c : After-digit) → c.loop-x.value + c.digit.result * c.loop-x.power < 2 ^ 64
sum_fits c = small-fits _ _ _ (power_small c) c.digit.ensures.small c.loop-x.invariant.small

pub overflow_mul-value : goal.overflow_mul-value
overflow_mul-value c = omega (arith, sum_fits c)

pub overflow_add-value : goal.overflow_add-value
overflow_add-value c = record { fits = sum_fits c }

pub overflow_mul-power : goal.overflow_mul-power
overflow_mul-power c = omega (arith, power_small c)

pub loop-x-preserved : goal.loop-x-preserved
loop-x-preserved c =
    let k = c.loop-x.invariant in
    let n = shorter c in
    record {
      within = omega (arith, n);
      power_is = power_at _ _ _ (omega (arith, n)) (power_before c);
      small = small-more _ _ _ c.digit.ensures.small k.small;
      value_is = rw c.digit.ensures.value (number-last _ _ _ _ _ (rw c.in-Some.ensures.steps at k.value_is));
    }

pub returns : goal.returns
returns c = number_none _ _ _ _ c.in-None.ensures.steps.0 c.loop-x.invariant.value_is
