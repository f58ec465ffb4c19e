-- `blocks::numbers::put_big` meets its contract. The loop's invariant: the number is put once the bytes left are put before
-- the place reached. Assumes nothing.
use Rattle.std.proofs.Common.{◌≡◌}
use Rattle.metafile.specs.Answers.{placed}
use Rattle.blocks.specs.Blocks.{big_endian}
use Rattle.blocks.proofs.numbers.put_big.Given as goal

abbrev pub invariant-loop-k : goal.invariant-loop-k
invariant-loop-k l = placed l.at (big_endian l.n l.x) l.initial.buffer ≡ placed l.at (big_endian l.k l.rest) l.buffer
