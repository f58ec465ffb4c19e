-- The finished chunk: what an accepted append writes is a whole chunk, ends where its last write ends, and its row is
-- the one demanded.
--     finished-whole finished-end finished-serial finished-date finished-row
-- Assumes nothing.
use Prim.Native.Nat.{ℕ, ◌+◌}
use mathlib.Core.Bool.{Bool, true, false, cond, not, ◌&&◌}
use mathlib.Core.Path.{◌≡◌, refl, sym, ◌∙◌}
use mathlib.Core.List.{List, [], ◌∷◌, ◌++◌}
use native.Mathlib.Numerals.{add-one}
use native.Mathlib.Omega.{arith}
use lib.ListN.{length, drop, length-append}
use lib.Seq.{take_at, drop_at, drop-drop, take-take}
use Rattle.metafile.specs.Bytes.{is_zero}
use Rattle.metafile.specs.Lines.{free, value, lf, opened, lines_of, free_fault, kind_fault, fault, run, content_length}
use Rattle.metafile.specs.Closing.{closing_end, sum_good}
use Rattle.metafile.specs.Header.{is_llc, mark_of}
use Rattle.metafile.specs.Chunk.{head, standard, dependency_fields, plain_fault, contents_fault, closing_place, chunk_end, serial_of, by_count, by_mark, ending_of, chunk_ending, row_at}
use Rattle.metafile.specs.Reading.{rows_of}
use Rattle.metafile.specs.Append.{Given, stamp_given, integrity_given, parent_values, head_values, content_count_for, first_write, third_write, first_end, second_end, third_end}
use Rattle.metafile.specs.Demand.{new_row}
use Rattle.metafile.specs.Relations.{writing_date_of}
use Rattle.laws.proofs.First.{⊳-left, ⊳-right, ⊳-both, require-met}
use Rattle.laws.proofs.Table.{field-long, run-split, write-run}
use Rattle.laws.proofs.Distances.{lines}
use Rattle.laws.proofs.Closed.{closed_run, closed-good, closed-serial, closed-writing-date}
use Rattle.chunk_laws.proofs.Chunk.{Whole}
use Rattle.written_laws.specs.Taken.{Taken}
use Rattle.written_laws.proofs.Formed.{formed-head, formed-dependencies, formed-line, standard-three}
use Rattle.written_laws.proofs.Stretches.{head_part, dependency_part, line_part, tail_part, chunk_bytes, chunk-closed, length-head, length-third, length-chunk, synch_type-at, standard-at, offset_at}
use Rattle.written_laws.proofs.Numbers.{is_multi-is, dependencies-is, specific-is, lengths-is, specific_place-is, header_bytes-is, at-specific, at_tail, content_count-is, at-contents, opened-right, plain_bytes-is, contents_bytes-is, contents_place-is, closing_place-is, at-closing}

-- a count of 0 says open
counted-not-zero : (llc is_open : Bool) (v : List ℕ) → (is_open ≡ true → llc ≡ false) → not (llc && is_zero (content_count_for is_open v)) ≡ true
unfolding content_count_for is_zero
counted-not-zero llc true v h = rw (h refl)
counted-not-zero true false v h = rw (add-one (length v))
counted-not-zero false false v h = refl

-- the way the caller chose
chosen : (is_open : Bool) (v : List ℕ) → ending_of false (content_count_for is_open v) ≡ cond is_open by_mark by_count
unfolding content_count_for ending_of
chosen true v = refl
chosen false v = rw (add-one (length v))

free-run : (v t : List ℕ) → run (value (free (length v)) ∷ []) (v ++ t) ≡ 0
unfolding run fault kind_fault free_fault
free-run v t = ⊳-both _ _ (field-long (length v) free_fault (v ++ t) (simp length-append (omega arith))) refl

module _ (old : List ℕ) (g : Given) (a : Taken old g) where
  line-run : run (opened content_length ++ lf ∷ []) (tail_part old g) ≡ 0
  unfolding tail_part line_part lines_of
  line-run = write-run (lines_of (content_length ∷ [])) _ (g.contents ++ third_write old g) (formed-line old g a)

  data-run : run (lf ∷ value (free (length g.contents)) ∷ []) (drop 33 (tail_part old g)) ≡ 0
  unfolding lines
  data-run =
      let behind : run (lf ∷ []) (drop 33 (tail_part old g)) ≡ 0 = ⊳-right _ _ (sym (run-split (opened content_length) (lf ∷ []) (tail_part old g)) ∙ line-run) in
      run-split (lf ∷ []) (value (free (length g.contents)) ∷ []) (drop 33 (tail_part old g))
      ∙ ⊳-both _ _ behind (rw (drop-drop 1 33 (tail_part old g), at-contents old g a) (free-run g.contents (third_write old g)))

  plain-is : plain_fault (is_llc old) (mark_of old) (tail_part old g) ≡ 0
  unfolding plain_fault
  plain-is =
      ⊳-both _ _ (⊳-left _ _ (sym (run-split (opened content_length) (lf ∷ []) (tail_part old g)) ∙ line-run))
      (⊳-both _ _ (rw (content_count-is old g a) (require-met _ 7 (counted-not-zero (is_llc old) g.is_open g.contents (λ q. (opened-right old g a q).0))))
      (rw (plain_bytes-is old g a) data-run))

  -- ---- the chunk

  pub finished-whole : Whole (is_llc old) (mark_of old) (chunk_bytes old g)
  unfolding chunk_bytes head_part dependency_part third_write contents_fault
  finished-whole =
      record {
        in_head = write-run head (head_values g) _ (formed-head old g a);
        in-lengths = lengths-is old g a;
        in-dependencies =
            rw (dependencies-is old g a, drop_at (head_part g) _ 567 (length-head old g a))
            (write-run (lf ∷ dependency_fields (length g.parents)) (parent_values old (rows_of old) g.parents) _ (formed-dependencies old g a));
        in-specific = rw (specific-is old g a, specific_place-is old g a, at-specific old g a) (free-run g.specific _);
        in-contents = rw (is_multi-is old g a, at_tail old g a) plain-is;
        in-closing = rw (at-closing old g a) (closed_run (mark_of old) (integrity_given g.description) a.in-integrity (first_write old g ++ g.contents) []);
      }

  pub finished-end : chunk_end (mark_of old) (chunk_bytes old g) ≡ length (chunk_bytes old g)
  unfolding chunk_end closing_end
  finished-end = rw (closing_place-is old g a) (simp length-append (omega (arith, length-chunk old g a, length-third old g a)))

  pub finished-serial : serial_of (mark_of old) (chunk_bytes old g) ≡ g.description.serial
  unfolding serial_of third_write integrity_given
  finished-serial =
      rw (closing_place-is old g a, chunk-closed old g)
      (closed-serial (mark_of old) (integrity_given g.description) a.in-integrity (first_write old g ++ g.contents) [])

  pub finished-date : writing_date_of (mark_of old) (chunk_bytes old g) ≡ g.description.written
  unfolding writing_date_of third_write integrity_given
  finished-date =
      rw (closing_place-is old g a, chunk-closed old g)
      (closed-writing-date (mark_of old) (integrity_given g.description) a.in-integrity (first_write old g ++ g.contents) [])

  finished-good : sum_good (closing_place (mark_of old) (chunk_bytes old g)) (mark_of old) (chunk_bytes old g) ≡ true
  unfolding third_write
  finished-good =
      rw (closing_place-is old g a, chunk-closed old g)
      (closed-good (mark_of old) (integrity_given g.description) a.in-integrity (first_write old g ++ g.contents) [])

  standard-is : standard (chunk_bytes old g) ≡ g.description.standard
  unfolding standard stamp_given
  standard-is =
      sym (take-take 3 41 (drop 366 (chunk_bytes old g)) (omega arith)) ∙ rw (standard-at old g a) (take_at g.description.standard _ 3 (standard-three old g a))

  finished-ending : chunk_ending (chunk_bytes old g) ≡ cond g.is_open by_mark by_count
  unfolding chunk_ending
  finished-ending = rw (is_multi-is old g a, at_tail old g a, content_count-is old g a) (chosen g.is_open g.contents)

  pub finished-row : row_at (mark_of old) (length old) (chunk_bytes old g) ≡ new_row old g (first_end old g) (third_end old g)
  unfolding row_at new_row first_end second_end third_end
  finished-row =
      let end : length old + length (chunk_bytes old g) ≡ length old + length (first_write old g) + length g.contents + length (third_write old g) = omega (arith, length-chunk old g a) in
      rw (
        finished-serial,
        header_bytes-is old g a,
        contents_place-is old g a,
        contents_bytes-is old g a,
        finished-end,
        end,
        dependencies-is old g a,
        synch_type-at old g a,
        standard-is,
        offset_at old g a,
        is_multi-is old g a,
        finished-good,
        finished-ending,
      )
