-- The list of verdicts from the first row to the last, and the outcome from the tests.
--     judging-none judging-tail judging-next judging-length judging-all   the verdicts by no row, by more rows, by all
--     judged-tail               what is behind the verdicts stays
--     text-20 text-18 text-checked   the answers over a text
--     name-given contents-given   the row's name and contents, as they are handed on
--     refused-row refused-19 check-is   the answers of the call
-- Assumes nothing.
use Prim.Native.Nat.{ℕ, ◌+◌, ◌-◌, ◌≤◌, ◌<◌}
use mathlib.Core.Bool.{Bool, true, false, not}
use mathlib.Core.Path.{◌≡◌, sym, ap, ◌∙◌}
use mathlib.Core.List.{List, [], ◌++◌}
use native.Mathlib.Nat.{zero-add}
use native.Mathlib.Omega.{arith}
use lib.ListN.{length, take, drop, length-append}
use lib.Seq.{drop_at, drop-drop}
use borrow.Author.Tests.{lt-ltb, le-ltb}
use Rattle.std.specs.declared.result.Result.TheVariants.{Ok, Err}
use Rattle.metafile.specs.declared.refusal.Refusal.{Refusal}
use Rattle.metafile.specs.declared.refusal.Refusal.TheVariants.{NoRoom, NotRelations, Heading}
use Rattle.metafile.specs.Refusals.{number_of}
use Rattle.metafile.specs.Bytes.{same}
use Rattle.metafile.specs.Lines.{first_of}
use Rattle.metafile.specs.Chunk.{sub_format}
use Rattle.metafile.specs.Reading.{rows_of}
use Rattle.metafile.specs.Append.{row_no}
use Rattle.metafile.specs.Answers.{outcome, placed, unless_refused, count_answer}
use Rattle.metafile.specs.Calls.{chunk_of, row_contents}
use Rattle.metafile.specs.Below.{any_below}
use Rattle.metafile.specs.Relations.{relations_name, is_relations, split_on, heading, is_declared, verdicts_by, verdicts, contents_lines, relations_check_tests, relations_check}
use Rattle.laws.proofs.Accepted.{refusal-first, refusal-next, tests-end}
use Rattle.laws.proofs.Outcomes.{outcome-refused, outcome-done}
use Rattle.laws.proofs.Lists.{part-long}
use Rattle.walk.specs.declared.cursor.Cursor.{Cursor}
use Rattle.walk.specs.Cursor.{named_of, cursor_none}
use Rattle.lines.proofs.Runs.{refused}
use Rattle.walk.proofs.Named.{tests-on, Named, refused_by}
use Rattle.relations_check.specs.Judged.{never, declared_below, Judging}
use Rattle.relations_check.specs.Outcome.{judged, checked_text}
use Rattle.relations_check.proofs.Lines.{verdicts-long}

-- ---- from the first row to the last

-- what a list has behind the verdicts
abbrev pub tail : List ℕ → List ℕ → List ℕ
tail text list = drop (length (verdicts_by never (split_on 10 text))) list

module _ (text list list' : List ℕ) where
  pub judging-tail : (by : List (List ℕ) → Bool) → list' ≡ verdicts_by by (split_on 10 text) ++ tail text list → tail text list' ≡ tail text list
  judging-tail by e = rw e (drop_at (verdicts_by by (split_on 10 text)) (tail text list) _ (verdicts-long by (split_on 10 text)))

  pub judging-next : (file : List ℕ) (k : ℕ) → list' ≡ verdicts_by (declared_below file k) (split_on 10 text) ++ tail text list → Judging file k text list'
  judging-next file k e = record { is = e ∙ ap (λ (rest : List ℕ). verdicts_by (declared_below file k) (split_on 10 text) ++ rest) (sym (judging-tail (declared_below file k) e)) }

  pub judging-none : (file : List ℕ) → list' ≡ verdicts_by never (split_on 10 text) ++ tail text list → Judging file 0 text list'
  judging-none file e = judging-next file 0 (unfold declared_below never any_below in e)

-- as long as it was
pub judging-length : (file : List ℕ) (k : ℕ) (text list list' : List ℕ) (by : List (List ℕ) → Bool) → Judging file k text list
    → list' ≡ verdicts_by by (split_on 10 text) ++ tail text list → length list' ≡ length list
judging-length file k text list list' by w e =
    let lines = split_on 10 text in
    let before = ap length w.is ∙ length-append (verdicts_by (declared_below file k) lines) (tail text list) in
    let after = ap length e ∙ length-append (verdicts_by by lines) (tail text list) in
    omega (arith, before, after, verdicts-long (declared_below file k) lines, verdicts-long by lines)

-- what is behind the verdicts decides
pub judged-tail : (file text list list' : List ℕ) → tail text list' ≡ tail text list → judged file text list' ≡ judged file text list
unfolding judged placed verdicts
judged-tail file text list list' e = rw (zero-add, verdicts-long (is_declared file) (split_on 10 text), e)

-- by all rows
pub judging-all : (file : List ℕ) (k : ℕ) (text list₀ list : List ℕ) → k ≡ length (rows_of file) → Judging file k text list → tail text list ≡ tail text list₀ → list ≡ judged file text list₀
unfolding judged placed verdicts declared_below is_declared
judging-all file k text list₀ list e w t =
    let all = verdicts-long (is_declared file) (split_on 10 text) in
    rw (zero-add, all) (rw (e, t) at w.is)

-- ---- over a text

module _ (file text list : List ℕ) where
  pub text-20 : (b : Bool) → b ≡ same (first_of (split_on 10 text)) heading → b ≡ false → outcome (count_answer (Err Heading)) list ≡ checked_text file text list
  unfolding checked_text count_answer
  text-20 b e z = outcome-refused _ list _ 20 (sym (refusal-first 20 _ _ (ap not (sym e ∙ z)))) (λ q. omega arith)

  module _ (b : Bool) (e : b ≡ same (first_of (split_on 10 text)) heading) (y : b ≡ true) (n : ℕ) (is : n ≡ length (verdicts_by never (split_on 10 text))) where
    count-is : n ≡ length (verdicts file (split_on 10 text))
    unfolding verdicts
    count-is = is ∙ sym (verdicts-long (is_declared file) (split_on 10 text))

    pub text-18 : length list < n → outcome (count_answer (Err NoRoom)) list ≡ checked_text file text list
    unfolding checked_text count_answer
    text-18 h =
        let short : length list < length (verdicts file (split_on 10 text)) = omega (arith, count-is) in
        outcome-refused _ list _ 18 (sym (refusal-next 20 _ _ (ap not (sym e ∙ y)) ∙ refusal-first 18 _ [] (lt-ltb _ _ short))) (λ q. omega arith)

    pub text-checked : n ≤ length list → (last : List ℕ) → last ≡ judged file text list → outcome (count_answer (Ok n)) last ≡ checked_text file text list
    unfolding checked_text count_answer
    text-checked h last p =
        let room : length (verdicts file (split_on 10 text)) ≤ length list = omega (arith, count-is) in
        rw (count-is, p) (outcome-done _ list _ (refusal-next 20 _ _ (ap not (sym e ∙ y)) ∙ refusal-next 18 _ [] (le-ltb _ _ room) ∙ tests-end))

-- ---- the call

-- the name of the chunk at a place of the file, as it is handed on
pub name-given : (file : List ℕ) (at : ℕ) → at + 302 ≤ length file
    → (length (take (at + 46 + 256 - (at + 46)) (drop (at + 46) file)) ≡ 256)
    × (same (take (at + 46 + 256 - (at + 46)) (drop (at + 46) file)) relations_name ≡ is_relations (drop at file))
unfolding is_relations sub_format
name-given file at h =
    let n : at + 46 + 256 - (at + 46) ≡ 256 = omega arith in
    (rw n (part-long file (at + 46) 256 (omega arith)), rw (n, drop-drop 46 at file))

-- the contents of a row, as they are handed on
pub contents-given : (file : List ℕ) (k : ℕ) (own : Cursor) → Named file k own
    → take (own.at + own.layout.contents + own.layout.bytes - (own.at + own.layout.contents)) (drop (own.at + own.layout.contents) file)
    ≡ row_contents file (row_no (rows_of file) k)
unfolding row_contents
contents-given file k own w =
    let at = own.at + own.layout.contents in
    let n : at + own.layout.bytes - at ≡ own.layout.bytes = omega arith in
    rw (n, ← w.contents-is, ← w.bytes-is)

module _ (file : List ℕ) (k : ℕ) (list : List ℕ) where
  pub refused-row : (r : Refusal) → cursor_none (number_of r) ≡ named_of file k → outcome (count_answer (Err r)) list ≡ relations_check file k list
  unfolding relations_check relations_check_tests count_answer
  refused-row r e = outcome-refused _ list _ (number_of r) (sym (refused_by file k r e _)) (refused r)

  module _ (own : Cursor) (w : Named file k own) where
    pub refused-19 : (b : Bool) → b ≡ is_relations (chunk_of file k) → b ≡ false → outcome (count_answer (Err NotRelations)) list ≡ relations_check file k list
    unfolding relations_check relations_check_tests count_answer
    refused-19 b e z =
        outcome-refused _ list _ 19 (sym (tests-on _ _ k _ w.file-small w.in_rows ∙ refusal-first 19 _ _ (ap not (sym e ∙ z)))) (λ q. omega arith)

    pub check-is : (b : Bool) → b ≡ is_relations (chunk_of file k) → b ≡ true → (text : List ℕ) → text ≡ row_contents file (row_no (rows_of file) k)
        → checked_text file text list ≡ relations_check file k list
    unfolding relations_check relations_check_tests checked_text contents_lines judged unless_refused
    check-is b e y text p =
        rw (p, tests-on _ _ k _ w.file-small w.in_rows, refusal-next 19 (not (is_relations (chunk_of file k))) _ (ap not (sym e ∙ y)))
