-- `search::find_single` meets its contract. The loop's invariant: the byte does not occur before `i`. Assumes nothing.
use Rattle.std.proofs.Common.{[], ◌∷◌}
use Rattle.search.proofs.Laws.{Passed}
use Rattle.search.proofs.find_single.Given as goal

abbrev pub invariant-loop-i : goal.invariant-loop-i
invariant-loop-i l = Passed (l.b ∷ []) l.s l.i
