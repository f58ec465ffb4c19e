-- `sums::byte_sum` meets its contract. The loop's invariant: `acc` is the sum of the bytes before the one reached. Assumes
-- nothing.
use Rattle.std.proofs.Common.{◌≡◌, take}
use Rattle.metafile.specs.Bytes.{sum}
use Rattle.sums.proofs.byte_sum.Given as goal

abbrev pub invariant-loop-i : goal.invariant-loop-i
invariant-loop-i l = l.acc ≡ sum (take l.i l.s)
