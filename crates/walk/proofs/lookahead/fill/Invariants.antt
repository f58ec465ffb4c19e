-- `walk::lookahead::fill` meets its contract. Assumes nothing.
use mathlib.Core.Path.{◌≡◌}
use Rattle.walk.specs.Walk.{place_after}
use Rattle.walk.specs.Ahead.{Marked}
use Rattle.walk.proofs.lookahead.fill.Given as goal

-- this row comes next
abbrev pub invariant-loop-row : goal.invariant-loop-row
invariant-loop-row l = (l.at ≡ place_after l.fn.source.file.now l.row) × Marked l.fn.source.file.now l.row l.words
