-- What is given to be written, as the reader judges it.
--     closing_lines closing-size given-..   the lines in the table of lines, and the size of their values
--     Widths Fits           the widths of the fields that are arrays; no text is over-long
--     given-fills integrity-fills closing-fills   the values fill their lines
--     formed-fits unformed formed-is   6: each field as the reader judges it
--     name-first            17: the sub-format stands first among the values
-- Assumes nothing.
use Prim.Native.Nat.{ℕ, ◌≤◌}
use mathlib.Core.Bool.{Bool, true, false, cond, not, ◌&&◌, ◌||◌}
use mathlib.Core.Path.{◌≡◌, refl, sym, ap, ◌∙◌}
use mathlib.Core.List.{List}
use native.Mathlib.Omega.{arith}
use lib.Dec.{ltb}
use lib.ListN.{length, take, replicate, length-append}
use lib.Seq.{take_at}
use borrow.Author.Tests.{le-ltb, ltb-false, not-true}
use Rattle.metafile.specs.declared.Description.{Description}
use Rattle.metafile.specs.Bytes.{member}
use Rattle.metafile.specs.Lines.{Kind, lines_of, formed, table, time_standard, event_synch}
use Rattle.metafile.specs.Closing.{Integrity, integrity_lines, integrity_values}
use Rattle.metafile.specs.Chunk.{given_lines}
use Rattle.metafile.specs.Append.{sub_format_given, serial_words, stamp_given, given_values, integrity_given, over_long, append_formed}
use Rattle.laws.proofs.First.{test, and_both, or-false}
use Rattle.laws.proofs.Lists.{length-padded}
use Rattle.laws.proofs.Distances.{lines}
use Rattle.table.specs.Codes.{lines_from}
use Rattle.lines.specs.Values.{chopped, values_size}
use Rattle.writer.specs.Values.{joined}
use Rattle.writer.proofs.Joined.{Fills, length-given, chopped-joined}

-- ---- the lines of the table

pub given-lines : lines_from 1 6 ≡ given_lines
unfolding lines_from table lines
given-lines = refl

pub given-size : values_size (lines_from 1 6) ≡ 360
unfolding lines_from table values_size lines
given-size = refl

pub closing_lines : lines_from 16 5 ≡ integrity_lines
unfolding lines_from table lines
closing_lines = refl

pub closing-size : values_size (lines_from 16 5) ≡ 118
unfolding lines_from table values_size lines
closing-size = refl

-- ---- the values fill them

pub record Widths (d : Description) : Type 0 where
  pub generic : length d.generic ≡ 3
  pub synch : length d.synch ≡ 3
  pub standard : length d.standard ≡ 3
  pub alternate : length d.alternate ≡ 38
  pub offset : length d.offset ≡ 16
  pub event : length d.event ≡ 3
  pub linked : length d.linked ≡ 38
  pub serial : length d.serial ≡ 38
  pub recorded : length d.recorded ≡ 8
  pub written : length d.written ≡ 8

either-long : (f : Bool) (v : List ℕ) → length v ≡ 38 → length (cond f v (replicate 38 32)) ≡ 38
either-long true v e = e
either-long false v e = refl

stamp-long : (k : Kind) (w v : List ℕ) → length w ≡ 3 → length v ≡ 38 → length (stamp_given k w v) ≡ 41
unfolding stamp_given
stamp-long k w v lw lv =
    let l = either-long (member w (serial_words k)) v lv in
    length-append w (cond (member w (serial_words k)) v (replicate 38 32)) ∙ omega arith

name-long : (d : Description) → d.subformat.given ≤ 256 → length (sub_format_given d) ≡ 256
unfolding sub_format_given
name-long d h = length-padded 256 _ (length-given d.subformat.given 256 d.subformat.bytes h)

given-fills : (d : Description) → Widths d → d.subformat.given ≤ 256 → Fills given_lines (given_values d)
unfolding Fills given_values lines
given-fills d w h = (
  name-long d h,
  (
    w.generic,
    (
      w.synch,
      (
        stamp-long time_standard.kind d.standard d.alternate w.standard w.alternate,
        (w.offset, (stamp-long event_synch.kind d.event d.linked w.event w.linked, tt)),
      ),
    ),
  ),
)

pub integrity-fills : (i : Integrity) → length i.serial ≡ 38 → length i.recording_date ≡ 8 → length i.recording_agent ≤ 32 → length i.writing_date ≡ 8
    → length i.writing_agent ≤ 32 → Fills integrity_lines (integrity_values i)
unfolding Fills integrity_values lines
integrity-fills i s r a w b = (
  s,
  (r, (length-padded 32 i.recording_agent a, (w, (length-padded 32 i.writing_agent b, tt)))),
)

closing-fills : (d : Description) → Widths d → d.recorder.given ≤ 32 → d.writer.given ≤ 32 → Fills integrity_lines (integrity_values (integrity_given d))
unfolding integrity_given
closing-fills d w h k =
    integrity-fills (integrity_given d) w.serial w.recorded (length-given d.recorder.given 32 d.recorder.bytes h)
    w.written (length-given d.writer.given 32 d.writer.bytes k)

-- ---- 6

-- nothing given is longer than its field
pub record Fits (d : Description) : Type 0 where
  pub name : d.subformat.given ≤ 256
  pub recorder : d.recorder.given ≤ 32
  pub writer : d.writer.given ≤ 32

not-long : (d : Description) → over_long d ≡ false → Fits d
unfolding over_long
not-long d e =
    let h = or-false (ltb 256 d.subformat.given || ltb 32 d.recorder.given) (ltb 32 d.writer.given) e in
    let k = or-false (ltb 256 d.subformat.given) (ltb 32 d.recorder.given) h.0 in
    record { name = ltb-false 256 _ k.0; recorder = ltb-false 32 _ k.1; writer = ltb-false 32 _ h.1 }

pub formed-fits : (d : Description) → append_formed d ≡ true → Fits d
unfolding append_formed
formed-fits d e =
    let front : Bool = not (over_long d) in
    let given : Bool = formed (lines_of given_lines) (given_values d) in
    not-long d (not-true _ (and_both front given (and_both (front && given) _ e).0).0)

-- what does not fit is not in form
pub unformed : (d : Description) → (Fits d → ⊥) → false ≡ append_formed d
unformed d n = test (append_formed d) (λ e. absurd (n (formed-fits d e))) (λ e. sym e)

module _ (d : Description) (w : Widths d) (f : Fits d) where
  fitting : over_long d ≡ false
  unfolding over_long
  fitting =
      let a = f.name in
      let b = f.recorder in
      let c = f.writer in
      rw (le-ltb 256 d.subformat.given a, le-ltb 32 d.recorder.given b, le-ltb 32 d.writer.given c)

  pub formed-is : (r₁ r₂ : Bool) (v₁ v₂ : List ℕ) → v₁ ≡ joined (given_values d) → v₂ ≡ joined (integrity_values (integrity_given d))
      → r₁ ≡ formed (lines_of (lines_from 1 6)) (chopped (lines_from 1 6) v₁) → r₂ ≡ formed (lines_of (lines_from 16 5)) (chopped (lines_from 16 5) v₂)
      → (r₁ && r₂) ≡ append_formed d
  unfolding append_formed
  formed-is r₁ r₂ v₁ v₂ is₁ is₂ e₁ e₂ =
      rw (
        e₁,
        e₂,
        is₁,
        is₂,
        given-lines,
        closing_lines,
        chopped-joined given_lines (given_values d) (given-fills d w f.name),
        chopped-joined integrity_lines (integrity_values (integrity_given d)) (closing-fills d w f.recorder f.writer),
        fitting,
      )

-- ---- 17

pub name-first : (d : Description) (v : List ℕ) → d.subformat.given ≤ 256 → v ≡ joined (given_values d) → take 256 v ≡ sub_format_given d
unfolding joined given_values
name-first d v h e = ap (take 256) e ∙ take_at (sub_format_given d) _ 256 (name-long d h)

pub name-length : (d : Description) (v : List ℕ) → d.subformat.given ≤ 256 → v ≡ joined (given_values d) → length (take 256 v) ≡ 256
name-length d v h e = ap length (name-first d v h e) ∙ name-long d h
