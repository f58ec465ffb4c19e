-- The lines of the finished chunk hold what was given ("Its lines hold the fields given .."), in the order of the
-- chunk: the head's values are Finished.antt's, the dependencies' and the closing's are here.
--     dependency-at    dependency j's serial and sub-format are those of the row named as parent j
--     closing_at       the closing's lines, from the file's first byte on
--     handed-in        every clause of HandedIn, from the one on parents
-- Assumes nothing.
use Prim.Native.Nat.{ℕ, zero, suc, ◌+◌, ◌*◌, ◌<◌}
use mathlib.Core.Bool.{true}
use mathlib.Core.Path.{◌≡◌, refl, sym, ap, ◌∙◌}
use mathlib.Core.List.{List, [], ◌∷◌, ◌++◌, append_assoc}
use native.Mathlib.Omega.{arith}
use lib.ListN.{length, drop, get_or, length-append}
use lib.Seq.{drop-drop, drop-append-add, take-append_seam}
use Rattle.metafile.specs.Bytes.{part}
use Rattle.metafile.specs.Fields.{digits_of}
use Rattle.metafile.specs.Lines.{text, serial, Field, fixed, value, lf, lines_of, first_of, others_of, put, left, write, formed, dependency_serial, dependency_sub_format}
use Rattle.metafile.specs.Closing.{Integrity, closing_serial}
use Rattle.metafile.specs.Header.{mark_of}
use Rattle.metafile.specs.Chunk.{dependency_fields, header_bytes_for, dependency_serial_of, dependency_sub_format_of}
use Rattle.metafile.specs.Reading.{rows_of}
use Rattle.metafile.specs.Answers.{result}
use Rattle.metafile.specs.Append.{Given, integrity_given, row_no, sub_format_of, parent_values, content_count_for, first_write, third_write, first_end, second_end}
use Rattle.metafile.specs.Calls.{parent}
use Rattle.metafile.specs.Demand.{integrity_at, HandedIn}
use Rattle.laws.proofs.First.{and_both}
use Rattle.laws.proofs.Table.{write-at, write-split, write-size, formed-split, lefts}
use Rattle.laws.proofs.Distances.{lines}
use Rattle.laws.proofs.Closed.{fixed-formed, closed-serial, closed-recording-date, closed-recording-agent, closed-writing-date, closed-writing-agent}
use Rattle.written_laws.specs.Taken.{Taken}
use Rattle.written_laws.proofs.Formed.{formed-dependencies}
use Rattle.written_laws.proofs.Stretches.{head_part, dependency_part, chunk_bytes, chunk-closed, skip, length-head, header_length-at, sub_format-at, generic-at, synch_type-at, standard-at, offset_at, event-at, dependency_length-at, dependency_count-at}
use Rattle.written_laws.proofs.Numbers.{header_bytes-is, at-specific, at_tail, count_at, contents_place-is, behind-line}

-- ---- the dependencies

-- the two values of dependency j, of those that ks name
record Named (old : List ℕ) (k : ℕ) (at-it : List ℕ) : Type 0 where
  serial-at : part 25 38 at-it ≡ (row_no (rows_of old) k).serial
  sub_format-at-it : part 87 256 at-it ≡ sub_format_of old (row_no (rows_of old) k)

module _ (old : List ℕ) where
  values : List ℕ → List (List ℕ)
  values ks = parent_values old (rows_of old) ks

  one : List Field
  one = lines_of (dependency_serial ∷ dependency_sub_format ∷ [])

  first-named : (k : ℕ) (ks t : List ℕ) → formed (dependency_fields (length (k ∷ ks))) (values (k ∷ ks)) ≡ true
      → Named old k (write (dependency_fields (length (k ∷ ks))) (values (k ∷ ks)) ++ t)
  unfolding values dependency_fields parent_values lines put left lefts first_of others_of
  first-named k ks t e =
      record {
        serial-at =
            write-at (fixed dependency_serial.label ∷ []) (value serial) (lf ∷ lines_of (dependency_sub_format ∷ []) ++ dependency_fields (length ks))
            (values (k ∷ ks)) t 25 38 refl refl e;
        sub_format-at-it =
            write-at (lines_of (dependency_serial ∷ []) ++ fixed dependency_sub_format.label ∷ []) (value (text 256)) (lf ∷ dependency_fields (length ks))
            (values (k ∷ ks)) t 87 256 refl refl e;
      }

  -- the stretch of one dependency, and those behind it
  both-formed : (k : ℕ) (ks : List ℕ) → formed (dependency_fields (length (k ∷ ks))) (values (k ∷ ks)) ≡ true
      → (formed one (values (k ∷ ks)) ≡ true) × (formed (dependency_fields (length ks)) (values ks) ≡ true)
  unfolding values one dependency_fields parent_values lines left lefts others_of
  both-formed k ks e =
      and_both (formed one (values (k ∷ ks))) _ (sym (formed-split one (dependency_fields (length ks)) (values (k ∷ ks))) ∙ e)

  next_one : (k : ℕ) (ks t : List ℕ) (j : ℕ) → formed (dependency_fields (length (k ∷ ks))) (values (k ∷ ks)) ≡ true
      → drop (344 * suc j) (write (dependency_fields (length (k ∷ ks))) (values (k ∷ ks)) ++ t) ≡ drop (344 * j) (write (dependency_fields (length ks)) (values ks) ++ t)
  unfolding values one dependency_fields parent_values lines left lefts others_of
  next_one k ks t j e =
      let long : length (write one (values (k ∷ ks))) ≡ 344 = write-size one (values (k ∷ ks)) (both-formed k ks e).0 in
      ap (λ (w : List ℕ). drop (344 * suc j) (w ++ t)) (write-split one (dependency_fields (length ks)) (values (k ∷ ks)))
      ∙ rw (append_assoc (write one (values (k ∷ ks)))) (skip (write one (values (k ∷ ks))) _ (344 * suc j) (344 * j) (omega arith))

  named : (ks t : List ℕ) (j : ℕ) → j < length ks → formed (dependency_fields (length ks)) (values ks) ≡ true
      → Named old (get_or ks j 0) (drop (344 * j) (write (dependency_fields (length ks)) (values ks) ++ t))
  named [] t j h e = absurd (omega arith)
  named (k ∷ ks) t zero h e = first-named k ks t e
  named (k ∷ ks) t (suc j) h e = rw (next_one k ks t j e) (named ks t j (omega arith) (both-formed k ks e).1)

module _ (old : List ℕ) (g : Given) (a : Taken old g) where
  dependency-at : (j : ℕ) → j < length g.parents → Named old (get_or g.parents j 0) (drop (568 + 344 * j) (chunk_bytes old g))
  unfolding values chunk_bytes dependency_part write put lf left
  dependency-at j h =
      rw (
        skip (head_part g) _ (568 + 344 * j) (1 + 344 * j) (omega (arith, length-head old g a)),
        skip (10 ∷ []) _ (1 + 344 * j) (344 * j) (omega arith),
      )
      (named old g.parents _ j h (sym (fixed-formed (10 ∷ []) _ _) ∙ formed-dependencies old g a))

  pub dependency_serial-at : (j : ℕ) → j < length g.parents → dependency_serial_of j (chunk_bytes old g) ≡ (row_no (rows_of old) (get_or g.parents j 0)).serial
  unfolding dependency_serial_of
  dependency_serial-at j h = rw (← drop-drop 25 (568 + 344 * j) (chunk_bytes old g)) (dependency-at j h).serial-at

  pub dependency_sub_format-at : (j : ℕ) → j < length g.parents → dependency_sub_format_of j (chunk_bytes old g) ≡ sub_format_of old (row_no (rows_of old) (get_or g.parents j 0))
  unfolding dependency_sub_format_of
  dependency_sub_format-at j h = rw (← drop-drop 87 (568 + 344 * j) (chunk_bytes old g)) (dependency-at j h).sub_format-at-it

  -- ---- specific data, the content length line, the data

  specific-at : part (header_bytes_for (length g.parents) 0) (length g.specific) (chunk_bytes old g) ≡ g.specific
  unfolding header_bytes_for
  specific-at =
      let place : 568 + 344 * length g.parents + 0 ≡ 568 + 344 * length g.parents = omega arith in
      rw (place, at-specific old g a) (take-append_seam g.specific _)

  content-length-at : part (header_bytes_for (length g.parents) (length g.specific) + 21) 12 (chunk_bytes old g) ≡ digits_of 12 (content_count_for g.is_open g.contents)
  content-length-at =
      rw (← drop-drop 21 (header_bytes_for (length g.parents) (length g.specific)) (chunk_bytes old g), ← header_bytes-is old g a, at_tail old g a) (count_at old g a)

  contents-at : part (first_end old g) (length g.contents) (old ++ chunk_bytes old g) ≡ g.contents
  unfolding first_end
  contents-at =
      rw (drop-append-add old (chunk_bytes old g), ← contents_place-is old g a, behind-line old g a) (take-append_seam g.contents _)

  -- ---- the closing, from the file's first byte on

  closing_at : (d w : ℕ) (v : List ℕ)
      → part (length (first_write old g ++ g.contents) + length (mark_of old) + d) w ((first_write old g ++ g.contents) ++ (third_write old g ++ [])) ≡ v
      → integrity_at (second_end old g) (mark_of old) d w (old ++ chunk_bytes old g) ≡ v
  unfolding integrity_at second_end first_end
  closing_at d w v e =
      let place : second_end old g + length (mark_of old) + d ≡ length old + (length (first_write old g ++ g.contents) + length (mark_of old) + d) =
      simp length-append (omega arith) in
      rw (place, drop-append-add old (chunk_bytes old g), chunk-closed old g) e

  pub handed-in : ((j : ℕ) → j < length g.parents → parent (old ++ chunk_bytes old g) (length (rows_of old)) j ≡ result (get_or g.parents j 0 ∷ 1 ∷ []))
      → HandedIn old g (first_end old g) (second_end old g) (old ++ chunk_bytes old g) (chunk_bytes old g)
  unfolding third_write integrity_given closing_serial
  handed-in found =
      let m : List ℕ = mark_of old in
      let i : Integrity = integrity_given g.description in
      let before : List ℕ = first_write old g ++ g.contents in
      record {
        header-length = header_length-at old g a;
        sub-format = sub_format-at old g a;
        generic-type = generic-at old g a;
        synch-type = synch_type-at old g a;
        time-standard = standard-at old g a;
        time-offset = offset_at old g a;
        event-synch = event-at old g a;
        dependency-length = dependency_length-at old g a;
        dependency-count = dependency_count-at old g a;
        dependency-serial = dependency_serial-at;
        dependency-sub-format = dependency_sub_format-at;
        specific-data = specific-at;
        content-length = content-length-at;
        contents = contents-at;
        serial = closing_at 20 38 _ (closed-serial m i a.in-integrity before []);
        recording-date = closing_at 80 8 _ (closed-recording-date m i a.in-integrity before []);
        recording-agent = closing_at 111 32 _ (closed-recording-agent m i a.in-integrity before []);
        writing-date = closing_at 163 8 _ (closed-writing-date m i a.in-integrity before []);
        writing-agent = closing_at 192 32 _ (closed-writing-agent m i a.in-integrity before []);
        parents = found;
      }
