-- `sums::words::word_sum` meets its contract. The loop's invariant: `acc` is the sum of the bytes of the first `i` blocks of
-- both halves. Assumes nothing.
use Rattle.std.proofs.Common.{◌≡◌, ◌+◌, ◌*◌, ◌%◌, min, take, drop}
use Rattle.metafile.specs.Bytes.{total}
use Rattle.sums.proofs.words.word_sum.Given as goal

abbrev pub invariant-loop-i : goal.invariant-loop-i
invariant-loop-i l = l.acc ≡ (total (take (min l.half (512 * l.i)) l.s) + total (take (min l.half (512 * l.i)) (drop l.half l.s))) % 256
