-- Every dependency of a whole chunk has a serial number and a sub-format that a reader takes, of full width; and the chunk
-- of each row of a file.
--     dependency_serial-taken dependency_sub_format-taken   the two values of dependency j, from 0
--     chunk_whole place_inside   row k's chunk is whole and inside the file
--     dependencies-are j-there   it has the row's dependencies
-- Assumes nothing.
use Prim.Native.Nat.{ℕ, zero, suc, ◌+◌, ◌-◌, ◌*◌, ◌≤◌, ◌<◌}
use mathlib.Core.Bool.{Bool}
use mathlib.Core.Path.{◌≡◌, sym, ap, ◌∙◌}
use mathlib.Core.List.{List, [], ◌∷◌, ◌++◌, append_assoc}
use native.Mathlib.Omega.{arith}
use lib.ListN.{length, drop}
use lib.Seq.{drop-drop}
use Rattle.metafile.specs.declared.Row.{Row}
use Rattle.metafile.specs.Lines.{text, serial, Field, fixed, value, lf, lines_of, text_fault, serial_fault, kind_fault, fault, run, dependency_serial, dependency_sub_format}
use Rattle.metafile.specs.Header.{is_llc, mark_of}
use Rattle.metafile.specs.Chunk.{dependencies, dependency_fields, dependency_serial_of, dependency_sub_format_of, row_at}
use Rattle.metafile.specs.Reading.{rows_of}
use Rattle.metafile.specs.Append.{row_no}
use Rattle.metafile.specs.Calls.{chunk_of}
use Rattle.laws.proofs.First.{⊳-right}
use Rattle.laws.proofs.Table.{run-split, run_at}
use Rattle.laws.proofs.Distances.{lines}
use Rattle.chunk_laws.proofs.Chunk.{Whole, size-behind-count}
use Rattle.chunk_laws.proofs.Places.{row-placed, placed_end, placed-least, taken-alone}

-- ---- the values of dependency j

fields_split : (j n : ℕ) → dependency_fields (j + n) ≡ dependency_fields j ++ dependency_fields n
unfolding dependency_fields
fields_split zero n = let k : zero + n ≡ n = omega arith in rw k
fields_split (suc j) n =
    let k : suc j + n ≡ suc (j + n) = omega arith in
    rw (k, fields_split j n, append_assoc (lines_of (dependency_serial ∷ dependency_sub_format ∷ [])))

module _ (llc : Bool) (m s : List ℕ) (w : Whole llc m s) (j : ℕ) (h : j < dependencies s) where
  -- it and those behind it
  from-it : run (dependency_fields (suc (dependencies s - suc j))) (drop (568 + 344 * j) s) ≡ 0
  from-it =
      let n : ℕ = suc (dependencies s - suc j) in
      let all-of-them : dependencies s ≡ j + n = omega arith in
      let place : 567 + (1 + 344 * j) ≡ 568 + 344 * j = omega arith in
      let e : run ((lf ∷ dependency_fields j) ++ dependency_fields n) (drop 567 s) ≡ 0 =
      ap (λ (fs : List Field). run (lf ∷ fs) (drop 567 s)) (sym (fields_split j n) ∙ ap dependency_fields (sym all-of-them))
      ∙ w.in-dependencies in
      rw (size-behind-count j, drop-drop (1 + 344 * j) 567 s, place) at
      (⊳-right (run (lf ∷ dependency_fields j) (drop 567 s)) _
      (sym (run-split (lf ∷ dependency_fields j) (dependency_fields n) (drop 567 s)) ∙ e))

  pub dependency_serial-taken : (length (dependency_serial_of j s) ≡ 38) × (kind_fault serial (dependency_serial_of j s) ≡ 0)
  unfolding dependency_serial_of dependency_fields lines kind_fault fault
  dependency_serial-taken =
      rw (← drop-drop 25 (568 + 344 * j) s)
      (taken-alone 38 serial_fault (drop 25 (drop (568 + 344 * j) s))
      (run_at (fixed dependency_serial.label ∷ []) (value serial)
      (lf ∷ lines_of (dependency_sub_format ∷ []) ++ dependency_fields (dependencies s - suc j))
      (drop (568 + 344 * j) s) from-it))

  pub dependency_sub_format-taken : (length (dependency_sub_format_of j s) ≡ 256)
      × (kind_fault (text 256) (dependency_sub_format_of j s) ≡ 0)
  unfolding dependency_sub_format_of dependency_fields lines kind_fault fault
  dependency_sub_format-taken =
      rw (← drop-drop 87 (568 + 344 * j) s)
      (taken-alone 256 text_fault (drop 87 (drop (568 + 344 * j) s))
      (run_at (lines_of (dependency_serial ∷ []) ++ fixed dependency_sub_format.label ∷ []) (value (text 256))
      (lf ∷ dependency_fields (dependencies s - suc j))
      (drop (568 + 344 * j) s) from-it))

-- ---- the chunk of a row

module _ (file : List ℕ) (k : ℕ) (h : k < length (rows_of file)) where
  pub chunk_whole : Whole (is_llc file) (mark_of file) (chunk_of file k)
  unfolding chunk_of
  chunk_whole = (row-placed file k h).chunk

  pub place_inside : (row_no (rows_of file) k).place ≤ length file
  place_inside =
      let w = row-placed file k h in
      omega (arith, placed-least (is_llc file) (mark_of file) file _ w, placed_end (is_llc file) (mark_of file) file _ w)

  pub dependencies-are : (row_no (rows_of file) k).dependencies ≡ dependencies (chunk_of file k)
  unfolding chunk_of row_at
  dependencies-are = ap (λ (x : Row). x.dependencies) (row-placed file k h).row

  pub j-there : (j : ℕ) → j < (row_no (rows_of file) k).dependencies → j < dependencies (chunk_of file k)
  j-there j d = omega (arith, dependencies-are)
