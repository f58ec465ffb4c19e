-- `search::same_bytes` meets its contract. The loop's invariant: the two are the same if the bytes passed are and the rest
-- is. Assumes nothing.
use Rattle.std.proofs.Common.{◌≡◌, ◌&&◌, drop}
use Rattle.metafile.specs.Bytes.{same}
use Rattle.search.proofs.same_bytes.Given as goal

abbrev pub invariant-loop-i : goal.invariant-loop-i
invariant-loop-i l = same l.a l.b ≡ (l.good && same (drop l.i l.a) (drop l.i l.b))
