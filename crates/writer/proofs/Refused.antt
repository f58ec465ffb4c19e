-- The outcome of a call that writes, where one of its tests refuses, by what it answers.
-- Assumes nothing.
use Prim.Native.Nat.{ℕ}
use mathlib.Core.List.{List}
use mathlib.Core.Path.{◌≡◌}
use Rattle.metafile.specs.declared.refusal.Refusal.{Refusal}
use Rattle.metafile.specs.Refusals.{number_of}
use Rattle.metafile.specs.Answers.{refused, Test, first_refusal, Outcome, outcome, unless_refused}
use Rattle.laws.proofs.Outcomes.{outcome-refused}
use Rattle.lines.proofs.Runs.{refused as number-some}

pub outcome-err : (ts : List Test) (buffer : List ℕ) (done : Outcome) (r : Refusal) → number_of r ≡ first_refusal ts
    → outcome (refused (number_of r)) buffer ≡ unless_refused ts buffer done
outcome-err ts buffer done r e = outcome-refused ts buffer done (number_of r) e (number-some r)
