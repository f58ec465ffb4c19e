-- `walk::lookahead::compare` meets its contract. Assumes nothing.
use Rattle.walk.proofs.Ahead.{Comparing}
use Rattle.walk.proofs.lookahead.compare.Given as goal

-- chunk k comes next
abbrev pub invariant-loop-k : goal.invariant-loop-k
invariant-loop-k l = Comparing l.fn.ahead.from.source.file.now l.n l.k l.at l.last l.least
