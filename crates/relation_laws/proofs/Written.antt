-- What is written for a file: its lines, and the text.
--     line-fields       a written line, divided at its tabs, is its five fields
--     ..-field fields-formed   each field is well-formed, so all five are
--     fields-lack line-lacks   no field has a byte below 32, no line an LF
--     line-length       a line has 604 bytes
--     line-declared line-verdict   row k declares the line of its dependency j
--     every-line        what holds of the line of every dependency of every row holds of every line written
--     written-declared  every line written is declared
--     text-length       the text has 131 bytes and 605 for each line
--     text-lines        the text's lines are the heading, the lines written, and an empty one
--     text-verdicts checked-text   checked, the text gives a verdict for each line written: declared
-- Assumes nothing.
use Prim.Native.Nat.{ℕ, ◌+◌, ◌*◌, ◌<◌}
use mathlib.Core.Bool.{Bool, true, false}
use mathlib.Core.Path.{◌≡◌, refl, ap, ◌∙◌}
use mathlib.Core.List.{List, [], ◌∷◌, ◌++◌, append-nil}
use native.Mathlib.Omega.{arith}
use native.Mathlib.Nat.{le_of_eq}
use lib.Dec.{eqb}
use lib.ListN.{length, take, replicate, length-append}
use lib.Seq.{take_all}
use borrow.Author.Tests.{eq-eqb}
use Rattle.metafile.specs.declared.Row.{Row}
use Rattle.metafile.specs.Bytes.{bytes, all, is_zero, same}
use Rattle.metafile.specs.Fields.{is_text, is_serial}
use Rattle.metafile.specs.Lines.{text, serial, text_fault, serial_fault, kind_fault, first_of}
use Rattle.metafile.specs.Header.{is_llc, mark_of}
use Rattle.metafile.specs.Chunk.{sub_format, dependency_serial_of, dependency_sub_format_of, row_at}
use Rattle.metafile.specs.Reading.{rows_of}
use Rattle.metafile.specs.Append.{is_in, row_no}
use Rattle.metafile.specs.Calls.{chunk_of}
use Rattle.metafile.specs.Relations.{is_relations, divided, split_on, lined, heading, relation_name, is_listed, relation_line, line_if_listed, lines_of_row, relation_lines, relations_text, is_serial_field, is_name_field, well_formed, is_parent_of, chunk_declares, row_declares, is_declared, declared, verdict_by, verdicts_by, verdicts}
use Rattle.laws.proofs.First.{test, both-and, require-true}
use Rattle.laws.proofs.Lists.{same_refl}
use Rattle.laws.proofs.SameSerial.{serial-refl}
use Rattle.laws.proofs.Zero.{serial-text}
use Rattle.laws.proofs.Dates.{serial-good}
use Rattle.laws.proofs.Below.{any-true, Every, every-join}
use Rattle.laws.proofs.Split.{none_has, lacks-more, divided-lacks, split-divided, split-lined, text-lacks, serial-field-is, serial-parts, name-parts}
use Rattle.laws.proofs.Table.{field-own}
use Rattle.chunk_laws.proofs.Places.{row-placed, serial-taken, sub_format-taken}
use Rattle.chunk_laws.proofs.Dependencies.{dependency_serial-taken, dependency_sub_format-taken, chunk_whole, j-there}

-- ---- fields

serial-field : (v : List ℕ) → length v ≡ 38 → kind_fault serial v ≡ 0 → is_serial_field v ≡ true
unfolding kind_fault
serial-field v l e =
    serial-field-is v
    ∙ both-and (eqb (length v) 38) (is_serial v) (eq-eqb (length v) 38 l)
    (rw (take_all 38 v (le_of_eq l)) at (serial-good (take 38 v) (field-own 38 serial_fault v e)))

name-field : (v : List ℕ) → length v ≡ 256 → kind_fault (text 256) v ≡ 0 → is_name_field v ≡ true
unfolding kind_fault text_fault is_name_field
name-field v l e =
    both-and (eqb (length v) 256) (all is_text v) (eq-eqb (length v) 256 l)
    (rw (take_all 256 v (le_of_eq l)) at (require-true (all is_text (take 256 v)) 5 (field-own 256 text_fault v e)))

-- how long a field is, and that it is text
serial-text-parts : (v : List ℕ) → is_serial_field v ≡ true → (length v ≡ 38) × (all is_text v ≡ true)
serial-text-parts v e =
    let h = serial-parts v e in
    (h.0, rw (take_all 38 v (le_of_eq h.0)) at (serial-text v h.1))

name-text : all is_text relation_name ≡ true
unfolding relation_name all is_text
name-text = refl

-- ---- the line of row k's dependency j

unfoldable pub line_fields : List ℕ → ℕ → ℕ → List (List ℕ)
line_fields file k j =
    relation_name
    ∷ (row_no (rows_of file) k).serial
    ∷ sub_format (chunk_of file k)
    ∷ dependency_serial_of j (chunk_of file k)
    ∷ dependency_sub_format_of j (chunk_of file k)
    ∷ []

line-is : (file : List ℕ) (k j : ℕ) → relation_line file k j ≡ divided 9 (line_fields file k j)
unfolding relation_line line_fields
line-is file k j = refl

-- the verdict on a line
abbrev pub Declared : (List (List ℕ) → Bool) → List ℕ → Type 0
Declared passes l = verdict_by passes l ≡ declared

module _ (file : List ℕ) (k : ℕ) (h : k < length (rows_of file)) where
  pub child-serial-field : is_serial_field (row_no (rows_of file) k).serial ≡ true
  unfolding row_at
  child-serial-field =
      let w = row-placed file k h in
      let t = serial-taken (is_llc file) (mark_of file) _ w.chunk in
      rw (ap (λ (x : Row). x.serial) w.row) (serial-field _ t.0 t.1)

  pub child-name-field : is_name_field (sub_format (chunk_of file k)) ≡ true
  child-name-field =
      let t = sub_format-taken (is_llc file) (mark_of file) (chunk_of file k) (chunk_whole file k h) in
      name-field _ t.0 t.1

  module _ (j : ℕ) (d : j < (row_no (rows_of file) k).dependencies) where
    pub parent-serial-field : is_serial_field (dependency_serial_of j (chunk_of file k)) ≡ true
    parent-serial-field =
        let w = chunk_whole file k h in
        let t = dependency_serial-taken (is_llc file) (mark_of file) (chunk_of file k) w j (j-there file k h j d) in
        serial-field _ t.0 t.1

    pub parent-name-field : is_name_field (dependency_sub_format_of j (chunk_of file k)) ≡ true
    parent-name-field =
        let w = chunk_whole file k h in
        let t = dependency_sub_format-taken (is_llc file) (mark_of file) (chunk_of file k) w j (j-there file k h j d) in
        name-field _ t.0 t.1

    pub fields-formed : well_formed (line_fields file k j) ≡ true
    unfolding well_formed line_fields
    fields-formed = rw (child-serial-field, child-name-field, parent-serial-field, parent-name-field)

    pub fields-lack : (b : ℕ) → b < 32 → none_has b (line_fields file k j) ≡ true
    unfolding line_fields none_has
    fields-lack b l =
        rw (
          text-lacks b relation_name l name-text,
          text-lacks b _ l (serial-text-parts _ child-serial-field).1,
          text-lacks b _ l (name-parts _ child-name-field).1,
          text-lacks b _ l (serial-text-parts _ parent-serial-field).1,
          text-lacks b _ l (name-parts _ parent-name-field).1,
        )

    pub line-fields : split_on 9 (relation_line file k j) ≡ line_fields file k j
    unfolding line_fields
    line-fields = rw (line-is file k j) (split-divided 9 _ _ (fields-lack 9 (omega arith)))

    pub line-lacks : is_in 10 (relation_line file k j) ≡ false
    line-lacks = rw (line-is file k j) (divided-lacks 10 9 (line_fields file k j) refl (fields-lack 10 (omega arith)))

    pub line-length : length (relation_line file k j) ≡ 604
    unfolding relation_line divided relation_name
    line-length =
        simp length-append
        (omega (
          arith,
          (serial-text-parts _ child-serial-field).0,
          (name-parts _ child-name-field).0,
          (serial-text-parts _ parent-serial-field).0,
          (name-parts _ parent-name-field).0,
        ))

    parent-there : is_parent_of (line_fields file k j) (chunk_of file k) j ≡ true
    unfolding is_parent_of line_fields
    parent-there = both-and _ _ (serial-refl _) (same_refl _)

    child-there : chunk_declares (line_fields file k j) (chunk_of file k) (row_no (rows_of file) k).dependencies ≡ true
    unfolding chunk_declares line_fields
    child-there = both-and _ _ (same_refl _) (any-true _ _ j d parent-there)

    row-declares : row_declares file (line_fields file k j) k ≡ true
    unfolding row_declares line_fields
    row-declares = both-and _ _ (serial-refl _) child-there

    pub line-declared : is_declared file (line_fields file k j) ≡ true
    unfolding is_declared
    line-declared = any-true (row_declares file (line_fields file k j)) (length (rows_of file)) k h row-declares

    -- by any test that its five fields pass
    pub line-verdict : (passes : List (List ℕ) → Bool) → passes (line_fields file k j) ≡ true
        → Declared passes (relation_line file k j)
    unfolding verdict_by line_fields first_of
    line-verdict passes e = rw (line-fields, same_refl relation_name, fields-formed, e)

-- ---- all lines

every-of-row : (file : List ℕ) (k : ℕ) (P : List ℕ → Type 0)
    → ((j : ℕ) → j < (row_no (rows_of file) k).dependencies → P (relation_line file k j))
    → Every P (lines_of_row file k)
unfolding lines_of_row line_if_listed Every
every-of-row file k P f =
    test (is_relations (chunk_of file k))
    (λ q. rw q tt)
    (λ q. rw q (every-join P _ _ (λ j d. test (is_listed file k j) (λ e. rw e (f j d, tt)) (λ e. rw e tt))))

pub every-line : (file : List ℕ) (P : List ℕ → Type 0)
    → ((k : ℕ) → k < length (rows_of file) → (j : ℕ) → j < (row_no (rows_of file) k).dependencies → P (relation_line file k j))
    → Every P (relation_lines file)
unfolding relation_lines
every-line file P f = every-join P (length (rows_of file)) (lines_of_row file) (λ k h. every-of-row file k P (f k h))

-- ---- verdicts

verdicts-all : (passes : List (List ℕ) → Bool) (ls rest : List (List ℕ)) → Every (Declared passes) ls
    → verdicts_by passes (ls ++ rest) ≡ replicate (length ls) declared ++ verdicts_by passes rest
unfolding verdicts_by Every is_zero
verdicts-all passes [] rest e = refl
verdicts-all passes (l ∷ ls) rest e = rw e.0 (ap (λ (x : List ℕ). declared ∷ x) (verdicts-all passes ls rest e.1))

written-verdicts : (file : List ℕ) → Every (Declared (is_declared file)) (relation_lines file)
written-verdicts file = every-line file _ (λ k h j d. line-verdict file k h j d (is_declared file) (line-declared file k h j d))

pub written-declared : (file : List ℕ) → verdicts file (relation_lines file) ≡ replicate (length (relation_lines file)) declared
unfolding verdicts verdicts_by
written-declared file =
    rw (append-nil (relation_lines file), append-nil (replicate (length (relation_lines file)) declared)) at
    (verdicts-all (is_declared file) (relation_lines file) [] (written-verdicts file))

-- ---- the text

heading-length : length heading ≡ 130
unfolding heading divided
heading-length = refl

heading-lacks : is_in 10 heading ≡ false
unfolding heading divided is_in
heading-lacks = refl

heading-name : first_of (split_on 9 heading) ≡ bytes "ADS Metafile Master Relation Chunk Revision 1.00"
unfolding heading none_has is_in first_of
heading-name = ap first_of (split-divided 9 _ _ refl)

-- a comment
heading-verdict : (passes : List (List ℕ) → Bool) → verdict_by passes heading ≡ 0
unfolding verdict_by same relation_name
heading-verdict passes = rw heading-name

empty-verdict : (passes : List (List ℕ) → Bool) → verdict_by passes [] ≡ 0
unfolding verdict_by split_on first_of same relation_name
empty-verdict passes = refl

lined-length : (ls : List (List ℕ)) → Every (λ (l : List ℕ). length l ≡ 604) ls → length (lined ls) ≡ 605 * length ls
unfolding lined Every
lined-length [] e = refl
lined-length (l ∷ ls) e = simp length-append (omega (arith, e.0, lined-length ls e.1))

pub text-length : (file : List ℕ) → length (relations_text file) ≡ 131 + 605 * length (relation_lines file)
unfolding relations_text lined
text-length file =
    simp length-append (omega (arith, heading-length, lined-length (relation_lines file) (every-line file _ (line-length file))))

none_has_lem : (ls : List (List ℕ)) → Every (λ (l : List ℕ). is_in 10 l ≡ false) ls → none_has 10 ls ≡ true
unfolding Every none_has
none_has_lem [] e = refl
none_has_lem (l ∷ ls) e = lacks-more 10 l ls e.0 (none_has_lem ls e.1)

pub text-lines : (file : List ℕ) → split_on 10 (relations_text file) ≡ heading ∷ relation_lines file ++ [] ∷ []
unfolding relations_text
text-lines file =
    let no_line = none_has_lem (relation_lines file) (every-line file _ (line-lacks file)) in
    split-lined (heading ∷ relation_lines file) (lacks-more 10 heading (relation_lines file) heading-lacks no_line)

-- the text's lines, by any test that every line written passes
pub text-verdicts : (file : List ℕ) (passes : List (List ℕ) → Bool) → Every (Declared passes) (relation_lines file)
    → verdicts_by passes (split_on 10 (relations_text file)) ≡ replicate (length (relation_lines file)) declared
unfolding verdicts_by is_zero
text-verdicts file passes e =
    rw (text-lines file, heading-verdict passes, verdicts-all passes (relation_lines file) ([] ∷ []) e, empty-verdict passes)
    (append-nil _)

pub checked-text : (file : List ℕ)
    → verdicts file (split_on 10 (relations_text file)) ≡ replicate (length (relation_lines file)) declared
unfolding verdicts
checked-text file = text-verdicts file (is_declared file) (written-verdicts file)
