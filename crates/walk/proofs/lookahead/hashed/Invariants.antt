-- `walk::lookahead::hashed` meets its contract. Assumes nothing.
use mathlib.Core.Path.{◌≡◌}
use lib.ListN.{length, take}
use Rattle.index.specs.Index.{size}
use Rattle.walk.specs.Ahead.{Hashed}
use Rattle.walk.proofs.lookahead.hashed.Given as goal

abbrev pub invariant-loop-place : goal.invariant-loop-place
invariant-loop-place l = Hashed l.file (take l.place-index l.noted) l.words × (length l.words ≡ size)
