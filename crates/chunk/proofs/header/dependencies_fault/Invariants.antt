-- `chunk::header::dependencies_fault` meets its contract. The loop's invariant: the run is that of the dependencies
-- left, from the place `at` on. Assumes nothing.
use Prim.Native.Nat.{◌-◌, ◌≤◌}
use mathlib.Core.Path.{◌≡◌}
use mathlib.Core.List.{◌∷◌}
use lib.ListN.{length, drop}
use Rattle.metafile.specs.Lines.{lf, run}
use Rattle.metafile.specs.Chunk.{dependency_fields}
use Rattle.chunk.proofs.header.dependencies_fault.Given as goal

abbrev pub invariant-loop : goal.invariant-loop
invariant-loop l = (l.at ≤ length l.s) × (run (lf ∷ dependency_fields l.n) (drop 567 l.s) ≡ run (dependency_fields (l.n - l.counter)) (drop l.at l.s))
