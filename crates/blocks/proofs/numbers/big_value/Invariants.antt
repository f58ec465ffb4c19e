-- `blocks::numbers::big_value` meets its contract. The loop's invariant: the value is that of the bytes before the one reached,
-- as small as these allow. Assumes nothing.
use Rattle.std.proofs.Common.{◌≡◌, ◌^◌, ◌<◌, take}
use Rattle.blocks.specs.Blocks.{big_value}
use Rattle.blocks.proofs.numbers.big_value.Given as goal

abbrev pub invariant-loop-b : goal.invariant-loop-b
invariant-loop-b l = (l.value ≡ big_value (take l.b-index l.s)) × (l.value < 256 ^ l.b-index)
