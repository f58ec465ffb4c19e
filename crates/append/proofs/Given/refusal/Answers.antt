-- `append::Given::refusal` meets its contract. What each test that did not refuse has shown is stated once, at its place.
-- Assumes nothing.
use Prim.Native.Nat.{◌≤◌}
use mathlib.Core.Bool.{true, false}
use mathlib.Core.Path.{◌≡◌, sym, ◌∙◌}
use native.Mathlib.Omega.{arith}
use lib.ListN.{length, take}
use lib.Seq.{length-take-le}
use Rattle.std.proofs.lemmas.Result.{err_from_is_err_and}
use Rattle.metafile.specs.Header.{header_fault}
use Rattle.metafile.specs.Reading.{reading, is_clean}
use Rattle.metafile.specs.Answers.{first_refusal}
use Rattle.append.specs.Given.{given_in}
use Rattle.append.specs.Tests.{description_tests, file_tests, open_refused}
use Rattle.lines.proofs.Runs.{refused as number-some}
use Rattle.append.proofs.Files.{number_is, mark-length, mark-fits}
use Rattle.append.proofs.Surveyed.{tests_of, surveyed-number, surveyed-stop, tests-are}
use Rattle.chunk_laws.proofs.File.{clean-header}
use Rattle.append.proofs.Refusals.{inside, buffer-small, specific-small, contents-small, parents-few, refused-12, refused-own, refused-there, refused-16, refused-18, not-refused}
use Rattle.append.proofs.Given.refusal.Goals as goal
use Rattle.append.proofs.Given.refusal.Goals.{Else-not-is_clean, Else-open_wrong, In_ok-description_refusal, In_ok-file_refusal, Start}

within : (s : Start) → s.args.length ≤ length s.args.buffer.now
within s = inside s.args.buffer.now s.args.length (given_in s.args.self.now) s.requires.open_value

-- 12
clean : (c : Else-not-is_clean) → is_clean (take c.args.length c.args.buffer.now) (reading (take c.args.length c.args.buffer.now)) ≡ true
clean c = sym c.is_clean.ensures ∙ c.if-not-is_clean.false

fault : (c : Else-not-is_clean) → header_fault (take c.args.length c.args.buffer.now) ≡ 0
fault c = clean-header (take c.args.length c.args.buffer.now) (clean c)

-- 6 and 17
own : (c : In_ok-description_refusal) → first_refusal (description_tests c.args.self.now.description) ≡ 0
own c = sym c.in_ok-description_refusal.ensures

-- 13, 9 and 15, by the survey
surveyed : (s : Start) → first_refusal (file_tests (take s.args.length s.args.buffer.now) s.args.survey.count s.args.survey.known s.args.self.now.parents.now) ≡ first_refusal (tests_of (take s.args.length s.args.buffer.now) s.args.self.now.parents.now s.args.self.now.description.serial)
surveyed s = tests-are (take s.args.length s.args.buffer.now) s.args.self.now.description.serial s.args.self.now.parents.now s.args.survey s.requires.survey_value

-- 16
closed : (c : Else-open_wrong) → open_refused (take c.args.length c.args.buffer.now) c.args.self.now.description.generic c.args.self.now.contents.now c.args.self.now.is_open ≡ false
closed c = sym c.open_wrong.ensures ∙ c.if-open_wrong.false

pub slice_bounds-file-end : goal.slice_bounds-file-end
slice_bounds-file-end c = sym (length-take-le c.args.length c.args.buffer.now (within (goal.at.slice_bounds-file-end c).Start))

pub is_clean-requires : goal.is_clean-requires
is_clean-requires c = (
  surveyed-number (take c.args.length c.args.buffer.now) c.args.self.now.description.serial c.args.self.now.parents.now c.args.survey c.requires.survey_value,
  surveyed-stop (take c.args.length c.args.buffer.now) c.args.self.now.description.serial c.args.self.now.parents.now c.args.survey c.requires.survey_value,
)

pub returns-then-not-is_clean : goal.returns-then-not-is_clean
returns-then-not-is_clean c = refused-12 c.args.buffer.now c.args.length (given_in c.args.self.now) c.requires.open_value (sym c.is_clean.ensures ∙ c.if-not-is_clean.true)

pub returns-in_err-description_refusal : goal.returns-in_err-description_refusal
returns-in_err-description_refusal c =
    let at = goal.at.returns-in_err-description_refusal c in
    let p = err_from_is_err_and c.from_residual.result c.from_residual.ensures.1 in
    rw (p.1, p.2)
    (refused-own c.args.buffer.now c.args.length (given_in c.args.self.now) c.requires.open_value (clean at.Else-not-is_clean) _ c.in_err-description_refusal.ensures (number-some _))

pub file_refusal-requires-clause-number_value : goal.file_refusal-requires-clause-number_value
file_refusal-requires-clause-number_value c =
    number_is (take c.args.length c.args.buffer.now) c.header-h.result c.header-h.ensures (fault (goal.at.file_refusal-requires-clause-number_value c).Else-not-is_clean)

pub returns-in_err-file_refusal : goal.returns-in_err-file_refusal
returns-in_err-file_refusal c =
    let at = goal.at.returns-in_err-file_refusal c in
    let p = err_from_is_err_and c.from_residual-in_err-file_refusal.result c.from_residual-in_err-file_refusal.ensures.1 in
    rw (p.1, p.2)
    (refused-there c.args.buffer.now c.args.length (given_in c.args.self.now) c.requires.open_value (clean at.Else-not-is_clean) (own at.In_ok-description_refusal) _
    (c.in_err-file_refusal.ensures ∙ surveyed at.Start) (number-some _))

pub open_wrong-requires-clause-number_value : goal.open_wrong-requires-clause-number_value
open_wrong-requires-clause-number_value c =
    number_is (take c.args.length c.args.buffer.now) c.header-h.result c.header-h.ensures (fault (goal.at.open_wrong-requires-clause-number_value c).Else-not-is_clean)

there : (c : In_ok-file_refusal) → first_refusal (tests_of (take c.args.length c.args.buffer.now) c.args.self.now.parents.now c.args.self.now.description.serial) ≡ 0
there c =
    sym (c.in_ok-file_refusal.ensures ∙ tests-are (take c.args.length c.args.buffer.now) c.args.self.now.description.serial c.args.self.now.parents.now c.args.survey c.requires.survey_value)

pub returns-then-open_wrong : goal.returns-then-open_wrong
returns-then-open_wrong c =
    let at = goal.at.returns-then-open_wrong c in
    refused-16 c.args.buffer.now c.args.length (given_in c.args.self.now) c.requires.open_value (clean at.Else-not-is_clean) (own at.In_ok-description_refusal) (there at.In_ok-file_refusal)
    (sym c.open_wrong.ensures ∙ c.if-open_wrong.true)

pub new_end-end-requires : goal.new_end-end-requires
new_end-end-requires c =
    let at = goal.at.new_end-end-requires c in
    let g = given_in c.args.self.now in
    let lent = c.requires.open_value in
    let fits = within at.Start in
    let room = mark-fits (take c.args.length c.args.buffer.now) c.header-h.result c.header-h.ensures (fault at.Else-not-is_clean) in
    let most = buffer-small c.args.buffer.now c.args.length g lent in (
      omega arith,
      parents-few c.args.buffer.now c.args.length g lent (clean at.Else-not-is_clean) (own at.In_ok-description_refusal) (there at.In_ok-file_refusal),
      specific-small c.args.buffer.now c.args.length g lent,
      contents-small c.args.buffer.now c.args.length g lent,
      omega (arith, length-take-le c.args.length c.args.buffer.now fits),
    )

pub returns-then-buffer-end : goal.returns-then-buffer-end
returns-then-buffer-end c =
    let at = goal.at.returns-then-buffer-end c in
    refused-18 c.args.buffer.now c.args.length (given_in c.args.self.now) c.requires.open_value (clean at.Else-not-is_clean) (own at.In_ok-description_refusal) (there at.In_ok-file_refusal) (closed at.Else-open_wrong)
    c.header-h.result.mark c.new_end-end.result (mark-length (take c.args.length c.args.buffer.now) c.header-h.result c.header-h.ensures (fault at.Else-not-is_clean)) c.new_end-end.ensures c.if-buffer-end.true

pub returns : goal.returns
returns c =
    let at = goal.at.returns c in
    not-refused c.args.buffer.now c.args.length (given_in c.args.self.now) c.requires.open_value (clean at.Else-not-is_clean) (own at.In_ok-description_refusal) (there at.In_ok-file_refusal) (closed at.Else-open_wrong)
    c.header-h.result.mark c.new_end-end.result (mark-length (take c.args.length c.args.buffer.now) c.header-h.result c.header-h.ensures (fault at.Else-not-is_clean)) c.new_end-end.ensures c.if-buffer-end.false
