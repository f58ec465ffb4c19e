-- `sums::words::block_sum` meets its contract. The loop's invariant: `all` and `even` are of the first `i` words of both runs.
-- Assumes nothing.
use Rattle.std.proofs.Common.{◌+◌, ◌*◌, take}
use Rattle.metafile.specs.Bytes.{total}
use Rattle.sums.specs.Lanes.{Words}
use Rattle.sums.proofs.words.block_sum.Given as goal

abbrev pub invariant-loop-i : goal.invariant-loop-i
invariant-loop-i l = Words (2 * l.i) l.all l.even (total (take (8 * l.i) l.s) + total (take (8 * l.i) l.q))
