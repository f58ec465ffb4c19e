-- `begin::Given::refusal` meets its contract. Assumes nothing.
use mathlib.Core.Bool.{true, false, ◌&&◌}
use mathlib.Core.Path.{◌≡◌, sym, ◌∙◌}
use mathlib.Core.List.{[], ◌∷◌}
use native.Mathlib.Omega.{arith}
use lib.ListN.{length}
use Rattle.metafile.specs.Bytes.{is_empty, same}
use Rattle.metafile.specs.Lines.{NUL}
use Rattle.metafile.specs.Answers.{over_limit}
use Rattle.metafile.specs.Begin.{begin_formed}
use Rattle.begin.specs.Given.{given_in}
use Rattle.begin.proofs.Formed.{mark-fits}
use Rattle.begin.proofs.Tests.{empty-is, refused-2, refused-3, refused-15, refused-18, passed}
use Rattle.begin.proofs.Given.refusal.Goals as goal
use Rattle.begin.proofs.Given.refusal.Goals.{After-is_empty, Else-not-is_formed}

-- 11 and 6 passed
within : (c : Else-not-is_formed) → over_limit (length c.args.buffer.now ∷ length c.args.self.now.mark.now ∷ length c.args.self.now.recorder.now ∷ length c.args.self.now.writer.now ∷ []) ≡ false
within c = sym c.over_limit.ensures ∙ c.if-over_limit.false

in-form : (c : Else-not-is_formed) → begin_formed (given_in c.args.self.now) ≡ true
in-form c = sym c.is_formed.ensures ∙ c.if-not-is_formed.false

-- 2 as the code tests it
nul-is : (c : After-is_empty) → (c.is_nul.result && c.is_empty.result) ≡ (same c.args.self.now.strategy NUL && is_empty c.args.self.now.mark.now)
nul-is c = rw (c.is_nul.ensures, empty-is c.args.self.now.mark.now c.is_empty.result c.is_empty.ensures)

pub returns-then-is_nul-is_empty : goal.returns-then-is_nul-is_empty
returns-then-is_nul-is_empty c =
    let at = goal.at.returns-then-is_nul-is_empty c in
    refused-2 (given_in c.args.self.now) _ (within at.Else-not-is_formed) (in-form at.Else-not-is_formed) (sym (nul-is at.After-is_empty) ∙ c.if-is_nul-is_empty.true)

pub returns-then-begins_mini : goal.returns-then-begins_mini
returns-then-begins_mini c =
    let at = goal.at.returns-then-begins_mini c in
    refused-3 (given_in c.args.self.now) _ (within at.Else-not-is_formed) (in-form at.Else-not-is_formed) (sym (nul-is at.After-is_empty) ∙ c.if-is_nul-is_empty.false)
    (sym c.begins_mini.ensures ∙ c.if-begins_mini.true)

pub returns-then-not-is_clear : goal.returns-then-not-is_clear
returns-then-not-is_clear c =
    let at = goal.at.returns-then-not-is_clear c in
    refused-15 (given_in c.args.self.now) _ (within at.Else-not-is_formed) (in-form at.Else-not-is_formed) (sym (nul-is at.After-is_empty) ∙ c.if-is_nul-is_empty.false)
    (sym c.begins_mini.ensures ∙ c.if-begins_mini.false) (sym c.is_clear.ensures ∙ c.if-not-is_clear.true)

pub overflow_add-self : goal.overflow_add-self
overflow_add-self c = omega (arith, mark-fits (given_in c.args.self.now) (in-form (goal.at.overflow_add-self c).Else-not-is_formed))

pub returns-then-buffer-self : goal.returns-then-buffer-self
returns-then-buffer-self c =
    let at = goal.at.returns-then-buffer-self c in
    refused-18 (given_in c.args.self.now) _ (within at.Else-not-is_formed) (in-form at.Else-not-is_formed) (sym (nul-is at.After-is_empty) ∙ c.if-is_nul-is_empty.false)
    (sym c.begins_mini.ensures ∙ c.if-begins_mini.false) (sym c.is_clear.ensures ∙ c.if-not-is_clear.false) c.if-buffer-self.true

pub returns : goal.returns
returns c =
    let at = goal.at.returns c in
    passed (given_in c.args.self.now) _ (within at.Else-not-is_formed) (in-form at.Else-not-is_formed) (sym (nul-is at.After-is_empty) ∙ c.if-is_nul-is_empty.false)
    (sym c.begins_mini.ensures ∙ c.if-begins_mini.false) (sym c.is_clear.ensures ∙ c.if-not-is_clear.false) c.if-buffer-self.false
