-- `walk::lookahead::look` meets its contract. Assumes nothing.
use mathlib.Core.Path.{◌≡◌}
use Rattle.walk.proofs.Ahead.{Looking}
use Rattle.walk.proofs.lookahead.look.Given as goal

-- the chunk at this place comes next, as this row
abbrev pub invariant-loop-row : goal.invariant-loop-row
invariant-loop-row l = (l.row ≡ l.chunks.looked) × Looking l.fn.ahead.from.source.file.now l.fn.ahead.from.row l.fn.ahead.from.at l.at l.chunks.looked l.chunks.noted l.words l.places
