-- The form of a line, and its verdict.
--     form-five                                  where the fields of a relation line stand
--     form-malformed form-relation               its verdict, by any test of its fields
--     serial-there day-there                     what reading a serial number gives
--     form-is                                    there is no other form
--     form-unnamed form-formed form-unformed     the form, as the code finds it
--     verdict-none verdict-formed verdict-unformed   the first verdict, as the code finds it
--     verdict-form                               its number is the form
-- Assumes nothing.
use Prim.Native.Nat.{ℕ}
use mathlib.Core.Bool.{Bool, true, false, cond}
use mathlib.Core.Path.{◌≡◌, refl, ◌∙◌}
use mathlib.Core.List.{List}
use native.Mathlib.Omega.{arith}
use Rattle.std.proofs.Common.{is_some}
use Rattle.metafile.specs.Fields.{is_serial}
use Rattle.metafile.specs.Days.{serial_read, day_fault}
use Rattle.metafile.specs.Relations.{split_on, well_formed, verdict_by}
use Rattle.laws.proofs.First.{test}
use Rattle.std.specs.Prelude.{Option, None, Some}
use Rattle.std.specs.declared.result.Result.{Result}
use Rattle.std.specs.declared.result.Result.TheVariants.{Ok, Err}
use Rattle.std.specs.Result.{is_ok}
use Rattle.metafile.specs.declared.Day.{Day}
use Rattle.metafile.specs.declared.refusal.Refusal.{Refusal}
use Rattle.metafile.specs.Refusals.{number_of, fault_in}
use Rattle.relation_line.specs.declared.verdicts.Verdict.TheVariants.{Undeclared, Malformed}
use Rattle.relation_line.specs.Form.{has_name, form_of, first_verdict, form_number, Five}
use Rattle.relation_line.proofs.Stand.{standing}

form-by : (line : List ℕ) → form_of line ≡ cond (has_name line) (cond (well_formed (split_on 9 line)) 2 3) 0
unfolding form_of verdict_by
form-by line = refl

pub form-unnamed : (line : List ℕ) → has_name line ≡ false → form_of line ≡ 0
form-unnamed line e = form-by line ∙ rw e

pub form-formed : (line : List ℕ) → has_name line ≡ true → well_formed (split_on 9 line) ≡ true → form_of line ≡ 2
form-formed line e w = form-by line ∙ rw (e, w)

pub form-unformed : (line : List ℕ) → has_name line ≡ true → well_formed (split_on 9 line) ≡ false → form_of line ≡ 3
form-unformed line e w = form-by line ∙ rw (e, w)

-- the first verdict, as the code finds it
module _ (line : List ℕ) where
  pub verdict-none : has_name line ≡ false → None ≡ first_verdict line
  unfolding first_verdict
  verdict-none e = rw e

  pub verdict-formed : has_name line ≡ true → well_formed (split_on 9 line) ≡ true → Some Undeclared ≡ first_verdict line
  unfolding first_verdict
  verdict-formed e w = rw (e, w)

  pub verdict-unformed : has_name line ≡ true → well_formed (split_on 9 line) ≡ false → Some Malformed ≡ first_verdict line
  unfolding first_verdict
  verdict-unformed e w = rw (e, w)

-- by the two tests
form-cases : {A : Type 0} (line : List ℕ) → (has_name line ≡ false → form_of line ≡ 0 → A)
    → (has_name line ≡ true → well_formed (split_on 9 line) ≡ true → form_of line ≡ 2 → A)
    → (has_name line ≡ true → well_formed (split_on 9 line) ≡ false → form_of line ≡ 3 → A)
    → A
form-cases line none whole broken =
    test (has_name line)
    (λ e.
    test (well_formed (split_on 9 line))
    (λ w. whole e w (form-formed line e w))
    (λ w. broken e w (form-unformed line e w)))
    (λ e. none e (form-unnamed line e))

pub form-is : {A : Type 0} (line : List ℕ) → (form_of line ≡ 0 → A) → (form_of line ≡ 2 → A) → (form_of line ≡ 3 → A) → A
form-is line none whole broken = form-cases line (λ e. none) (λ e w. whole) (λ e w. broken)

pub verdict-form : (line : List ℕ) → form_number (first_verdict line) ≡ form_of line
verdict-form line =
    form-cases line
    (λ e f. rw (← verdict-none line e, f))
    (λ e w f. rw (← verdict-formed line e w, f))
    (λ e w f. rw (← verdict-unformed line e w, f))

pub form-five : (line : List ℕ) → form_of line ≡ 2 → Five line
form-five line h =
    form-cases line
    (λ e z. absurd (omega (arith, h, z)))
    (λ e w z. standing line e w)
    (λ e w z. absurd (omega (arith, h, z)))

module _ (check : List (List ℕ) → Bool) (line : List ℕ) where
  pub form-malformed : form_of line ≡ 3 → verdict_by check line ≡ 3
  unfolding verdict_by
  form-malformed h =
      form-cases line
      (λ e z. absurd (omega (arith, h, z)))
      (λ e w z. absurd (omega (arith, h, z)))
      (λ e w z. rw (e, w))

  pub form-relation : form_of line ≡ 2 → verdict_by check line ≡ cond (check (split_on 9 line)) 1 2
  unfolding verdict_by
  form-relation h =
      form-cases line
      (λ e z. absurd (omega (arith, h, z)))
      (λ e w z. rw (e, w))
      (λ e w z. absurd (omega (arith, h, z)))

-- reading a serial number gives a day where it is one
pub serial-there : (v : List ℕ) → is_some (serial_read v) ≡ is_serial v
unfolding serial_read
serial-there v = test (is_serial v) (λ e. rw e) (λ e. rw e)

-- a refusal has a number
refused : (x : Refusal) → number_of x ≡ 0 → ⊥
refused x e = grind arith

-- and no fault where there is a day
pub day-there : (d : Option Day) (r : Result Unit Refusal) → fault_in r ≡ day_fault d → is_ok r ≡ is_some d
unfolding day_fault
day-there None (Ok a) e = absurd (omega (arith, e))
day-there None (Err x) e = refl
day-there (Some d) (Ok a) e = refl
day-there (Some d) (Err x) e = absurd (refused x e)
