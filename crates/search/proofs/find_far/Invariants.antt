-- `search::find_far` meets its contract. The loop's invariant: the byte does not occur in the stretches before `at`. Assumes
-- nothing.
use Rattle.std.proofs.Common.{◌≡◌, [], ◌∷◌, ◌*◌}
use Rattle.search.proofs.Laws.{Passed}
use Rattle.search.proofs.find_far.Given as goal

abbrev pub invariant-loop-i : goal.invariant-loop-i
invariant-loop-i l = (l.at ≡ 64 * l.i) × Passed (l.b ∷ []) l.s l.at
