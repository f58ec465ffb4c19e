-- The outcome of a call that writes, from its tests: the first that refuses gives the number and leaves the buffer as it
-- was; where none does, it is what was defined.
--     outcome-refused outcome-done
-- Assumes nothing.
use Prim.Native.Nat.{ℕ}
use mathlib.Core.List.{List}
use mathlib.Core.Path.{◌≡◌, sym, ◌∙◌}
use Rattle.metafile.specs.Answers.{refused, Test, first_refusal, Outcome, outcome, unless_refused}
use Rattle.laws.proofs.First.{choose-go, choose-stop}

module _ (ts : List Test) (buffer : List ℕ) (done : Outcome) where
  pub outcome-refused : (n : ℕ) → n ≡ first_refusal ts → (n ≡ 0 → ⊥) → outcome (refused n) buffer ≡ unless_refused ts buffer done
  unfolding unless_refused
  outcome-refused n e h = rw e (sym (choose-stop (first_refusal ts) _ _ (λ z. h (e ∙ z))))

  pub outcome-done : first_refusal ts ≡ 0 → done ≡ unless_refused ts buffer done
  unfolding unless_refused
  outcome-done e = sym (choose-go (first_refusal ts) _ _ e)
