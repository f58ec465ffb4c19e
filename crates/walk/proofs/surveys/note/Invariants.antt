-- `walk::surveys::note` meets its contract. Assumes nothing.
use mathlib.Core.Path.{◌≡◌}
use mathlib.Core.List.{◌++◌}
use lib.ListN.{length, take, drop}
use Rattle.walk.specs.Survey.{noted}
use Rattle.walk.proofs.surveys.note.Given as goal

abbrev pub invariant-loop-j : goal.invariant-loop-j
invariant-loop-j l = (length l.values ≡ length l.initial.values) × (noted l.i l.value l.initial.values l.rows ≡ take l.j l.values ++ noted l.i l.value (drop l.j l.values) (drop l.j l.rows))
