-- `fields::numbers::number` meets its contract. The loop's invariant: the bytes not yet taken, with the power of 10 for those
-- that were, and the value come to the whole number, and the value is small beside the power. Assumes nothing.
use Prim.Native.Nat.{◌+◌, ◌-◌, ◌*◌, ◌^◌, ◌≤◌}
use mathlib.Core.Path.{◌≡◌}
use lib.ListN.{length}
use Rattle.metafile.specs.Fields.{number}
use Rattle.fields.proofs.Digits.{Small}
use Rattle.fields.proofs.numbers.number.Given as goal

abbrev pub invariant-loop-x : goal.invariant-loop-x
invariant-loop-x l =
    let rest = l.x-iterator.iter.rest.now in
    record {
      within : length rest ≤ length l.s;
      power_is : l.power ≡ 10 ^ (length l.s - length rest);
      small : Small l.power l.value;
      value_is : number l.s ≡ number rest * l.power + l.value;
    }
