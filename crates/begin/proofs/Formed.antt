-- What is in form, and the header that is written of it. "6 field out of form or range; also begin .. (there too a wrong
-- listed word, an over-long text or a mark over 999)": where a text is over-long, its padded field is too.
--     title-size title-values-size   the header's lines in the table of lines
--     mark-fits recorder-fits writer-fits unformed   what is in form is not over-long
--     header-length   319 and twice the mark
--     Widths formed-is header_is   the code's judgement, and the code's header
-- Assumes nothing.
use Prim.Native.Nat.{ℕ, ◌+◌, ◌-◌, ◌*◌, ◌≤◌}
use mathlib.Core.Bool.{Bool, true, false, not, ◌&&◌}
use mathlib.Core.Path.{◌≡◌, refl, sym, ap, ◌∙◌}
use mathlib.Core.List.{List, [], ◌∷◌, ◌++◌}
use native.Mathlib.Omega.{arith}
use lib.Dec.{ltb}
use lib.ListN.{length, length-append}
use borrow.Author.Tests.{le-ltb, ltb-false, not-true}
use Rattle.metafile.specs.Bytes.{part}
use Rattle.metafile.specs.Fields.{digits_of, padded}
use Rattle.metafile.specs.Lines.{text, Field, fixed, value, lf, lines_of, width, field_width, size, put, left, first_of, others_of, write, formed, table, chunk_serial, recording_date, recording_agent, writing_date, writing_agent}
use Rattle.metafile.specs.Closing.{Integrity, integrity_lines, integrity_values, summed_bytes, closing_bytes}
use Rattle.metafile.specs.Header.{title}
use Rattle.metafile.specs.Answers.{placed}
use Rattle.metafile.specs.Begin.{BeginGiven, title_values, title_bytes, begun_file, begin_formed}
use Rattle.laws.proofs.First.{test, and_both}
use Rattle.laws.proofs.Digits.{length-digits_of}
use Rattle.laws.proofs.Table.{formed-split, formed-width, write-size, lefts}
use Rattle.laws.proofs.Distances.{lines, size-title}
use Rattle.laws.proofs.Closed.{closed-length}
use Rattle.table.specs.Codes.{lines_from}
use Rattle.lines.specs.Values.{chopped, values_size, closing_for}
use Rattle.writer.proofs.Placed.{part-whole, part_placed}
use Rattle.writer.proofs.Joined.{integrity-is, chopped-joined}
use Rattle.writer.proofs.Described.{closing_lines, integrity-fills}
use Rattle.begin.proofs.Values.{placed-behind}

-- ---- the lines of the header, and their values one behind the other

title-lines : lines_of (lines_from 22 2) ≡ title
unfolding lines_from table title
title-lines = refl

pub title-size : size (lines_of (lines_from 22 2)) ≡ 65
title-size = ap size title-lines ∙ size-title

pub title-values-size : values_size (lines_from 22 2) ≡ 6
unfolding lines_from table values_size lines
title-values-size = refl

and-true : (a c : Bool) → (a && c) ≡ ((a && true) && c)
and-true true c = refl
and-true false c = refl

-- the widths of what is given as arrays
pub record Widths (b : BeginGiven) : Type 0 where
  pub strategy : length b.strategy ≡ 3
  pub serial : length b.integrity.serial ≡ 38
  pub recorded : length b.integrity.recording_date ≡ 8
  pub written : length b.integrity.writing_date ≡ 8

-- ---- what is in form fits

-- a text that stands, padded, among values in form
text-fits : (a : List Field) (n : ℕ) (r : List Field) (vs : List (List ℕ)) (t : List ℕ) → formed (a ++ value (text n) ∷ r) vs ≡ true
    → put (value (text n)) (lefts a vs) ≡ padded n t → length t ≤ n
unfolding padded field_width width
text-fits a n r vs t e is =
    let h = and_both (formed a vs) (formed (value (text n) ∷ r) (lefts a vs)) (sym (formed-split a (value (text n) ∷ r) vs) ∙ e) in
    omega (arith, simp length-append at (ap length (sym is) ∙ formed-width (value (text n)) r (lefts a vs) h.1))

module _ (b : BeginGiven) (e : begin_formed b ≡ true) where
  formed-parts : (formed title (title_values b) ≡ true) × (not (ltb 999 (length b.mark)) ≡ true) × (formed (lines_of integrity_lines) (integrity_values b.integrity) ≡ true)
  unfolding begin_formed
  formed-parts =
      let front : Bool = formed title (title_values b) in
      let fits : Bool = not (ltb 999 (length b.mark)) in
      let h = and_both (front && fits) (formed (lines_of integrity_lines) (integrity_values b.integrity)) e in
      let k = and_both front fits h.0 in
      (k.0, k.1, h.1)

  pub mark-fits : length b.mark ≤ 999
  mark-fits = ltb-false 999 (length b.mark) (not-true _ formed-parts.1)

  pub recorder-fits : length b.integrity.recording_agent ≤ 32
  unfolding lines put left lefts first_of others_of integrity_values
  recorder-fits =
      text-fits (lines_of (chunk_serial ∷ recording_date ∷ []) ++ fixed recording_agent.label ∷ []) 32
      (lf ∷ lines_of (writing_date ∷ writing_agent ∷ []))
      (integrity_values b.integrity) b.integrity.recording_agent formed-parts.2 refl

  pub writer-fits : length b.integrity.writing_agent ≤ 32
  unfolding lines put left lefts first_of others_of integrity_values
  writer-fits =
      text-fits (lines_of (chunk_serial ∷ recording_date ∷ recording_agent ∷ writing_date ∷ []) ++ fixed writing_agent.label ∷ []) 32
      (lf ∷ [])
      (integrity_values b.integrity) b.integrity.writing_agent formed-parts.2 refl

  length-title : length (title_bytes b) ≡ 65
  unfolding title_bytes
  length-title = write-size title (title_values b) formed-parts.0 ∙ size-title

  pub header-length : length (begun_file b) ≡ 319 + 2 * length b.mark
  unfolding begun_file
  header-length =
      simp length-append (omega (arith, length-title, closed-length b.mark b.integrity formed-parts.2 (title_bytes b)))

pub unformed : (b : BeginGiven) → (begin_formed b ≡ true → ⊥) → false ≡ begin_formed b
unformed b n = test (begin_formed b) (λ e. absurd (n e)) (λ e. sym e)

-- ---- the values given, judged and written

abbrev title_given : BeginGiven → List ℕ
title_given b = b.strategy ++ digits_of 3 (length b.mark)

abbrev values_given : Integrity → List ℕ
values_given i = i.serial ++ i.recording_date ++ padded 32 i.recording_agent ++ i.writing_date ++ padded 32 i.writing_agent

module _ (b : BeginGiven) (w : Widths b) where
  chopped-title : chopped (lines_from 22 2) (title_given b) ≡ title_values b
  unfolding lines_from table chopped title_values lines
  chopped-title =
      let long : length (title_given b) ≡ 6 = simp length-append (omega (arith, w.strategy, length-digits_of 3 (length b.mark))) in
      rw (part-whole (title_given b) 6 long)

  -- the 65 bytes
  title-is : write (lines_of (lines_from 22 2)) (chopped (lines_from 22 2) (title_given b)) ≡ title_bytes b
  unfolding title_bytes
  title-is = rw (title-lines, chopped-title)

  module _ (recorder : length b.integrity.recording_agent ≤ 32) (writer : length b.integrity.writing_agent ≤ 32) where
    chopped-integrity : (v : List ℕ) → v ≡ values_given b.integrity → chopped integrity_lines v ≡ integrity_values b.integrity
    chopped-integrity v e =
        rw (integrity-is b.integrity v e)
        (chopped-joined integrity_lines (integrity_values b.integrity) (integrity-fills b.integrity w.serial w.recorded recorder w.written writer))

    pub formed-is : (r₁ r₂ : Bool) (t v : List ℕ) → length b.mark ≤ 999 → t ≡ title_given b → v ≡ values_given b.integrity
        → r₁ ≡ formed (lines_of (lines_from 22 2)) (chopped (lines_from 22 2) t) → r₂ ≡ formed (lines_of (lines_from 16 5)) (chopped (lines_from 16 5) v)
        → (r₁ && r₂) ≡ begin_formed b
    unfolding begin_formed
    formed-is r₁ r₂ t v h et ev e₁ e₂ =
        rw (e₁, e₂, et, title-lines, chopped-title, closing_lines, chopped-integrity v ev, le-ltb 999 (length b.mark) h)
        (and-true (formed title (title_values b)) (formed (lines_of integrity_lines) (integrity_values b.integrity)))

module _ (b : BeginGiven) (w : Widths b) (e : begin_formed b ≡ true) where
  pub header_is : (t v buffer b₁ b₂ : List ℕ) (at : ℕ) → t ≡ title_given b → v ≡ values_given b.integrity
      → at ≡ 0 + size (lines_of (lines_from 22 2))
      → b₁ ≡ placed 0 (write (lines_of (lines_from 22 2)) (chopped (lines_from 22 2) t)) buffer
      → b₂ ≡ placed at (closing_for b.mark (chopped integrity_lines v) (part 0 (at - 0) b₁)) b₁
      → b₂ ≡ placed 0 (begun_file b) buffer
  unfolding begun_file closing_bytes summed_bytes closing_for
  header_is t v buffer b₁ b₂ at et ev ea e₁ e₂ =
      let long : at ≡ length (title_bytes b) = omega (arith, ea, title-size, length-title b e) in
      let front : b₁ ≡ placed 0 (title_bytes b) buffer = e₁ ∙ rw (et, title-is b w) in
      let values : chopped integrity_lines v ≡ integrity_values b.integrity = chopped-integrity b w (recorder-fits b e) (writer-fits b e) v ev in
      let whole : at - 0 ≡ length (title_bytes b) = omega arith in
      let summed-over : part 0 (at - 0) b₁ ≡ title_bytes b = rw (whole, front) (part_placed 0 (title_bytes b) buffer (omega arith)) in
      e₂ ∙ rw (summed-over, values, front, long) (placed-behind (title_bytes b) (closing_bytes b.mark b.integrity (title_bytes b)) buffer)
