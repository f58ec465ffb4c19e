-- Every row of a reading is the row of a whole chunk at its place in the file ("A row holds: ..").
--     Placed                 the chunk at the row's place is whole, and the row is its row
--     file-placed row-placed every row of a file's reading is placed
--     placed-.. row_inside   it lies inside the file: end, header, dependencies, contents
--     ..-taken               its serial and its sub-format are fields that a reader takes, of full width
--     writing-dated          its writing date is a date
-- Assumes nothing.
use Prim.Native.Nat.{ℕ, zero, suc, ◌+◌, ◌*◌, ◌≤◌, ◌<◌}
use mathlib.Core.Bool.{Bool, true}
use mathlib.Core.Path.{◌≡◌, refl, ap, ◌∙◌}
use mathlib.Core.List.{List, [], ◌∷◌, ◌++◌}
use native.Mathlib.Omega.{arith}
use lib.ListN.{length, take, drop, length-drop}
use lib.Seq.{drop-drop, take-take, length-take-le}
use Rattle.metafile.specs.declared.Row.{Row}
use Rattle.metafile.specs.Fields.{is_date}
use Rattle.metafile.specs.Lines.{text, date, serial, fixed, value, lf, opened, lines_of, field_fault, text_fault, date_fault, serial_fault, kind_fault, fault, chunk_header_length, sub_format_id, generic_type, time_and_event, dependency_length, dependency_count, chunk_serial, recording_date, recording_agent, writing_date, writing_agent, checksum}
use Rattle.metafile.specs.Closing.{summed, unsummed, closing, closing_end, closing_serial}
use Rattle.metafile.specs.Header.{is_llc, mark_of, header_end}
use Rattle.metafile.specs.Chunk.{head, sub_format, header_bytes, header_bytes_for, contents_place, closing_place, chunk_end, serial_of, row_at}
use Rattle.metafile.specs.Reading.{halt, onto, read_rows, rows_of}
use Rattle.metafile.specs.Append.{row_no}
use Rattle.metafile.specs.Relations.{writing_date_of}
use Rattle.laws.proofs.Dates.{date-good}
use Rattle.laws.proofs.Table.{field-enough, field-own, field-long, run_at}
use Rattle.laws.proofs.Distances.{lines}
use Rattle.chunk_laws.proofs.Chunk.{Whole, fits, least}
use Rattle.chunk_laws.proofs.Rows.{read-end, read-stop, read_step, read-full, step-cases, next-whole}
use Rattle.chunk_laws.proofs.File.{rows_behind, rows-begun, rows-unbegun, header-cases}

pub record Placed (llc : Bool) (m file : List ℕ) (r : Row) : Type 0 where
  pub chunk : Whole llc m (drop r.place file)
  pub row : r ≡ row_at m r.place (drop r.place file)

-- every row of these
unfoldable pub AllPlaced : Bool → List ℕ → List ℕ → List Row → Type 0
AllPlaced llc m file rows = (k : ℕ) → k < length rows → Placed llc m file (row_no rows k)

module _ (llc : Bool) (m file : List ℕ) where
  none-placed : AllPlaced llc m file []
  unfolding AllPlaced
  none-placed k h = absurd (omega arith)

  one_more : (r : Row) (rs : List Row) → Placed llc m file r → AllPlaced llc m file rs → AllPlaced llc m file (r ∷ rs)
  unfolding AllPlaced row_no
  one_more r rs p ih zero h = p
  one_more r rs p ih (suc k) h = ih k (omega arith)

  here-placed : (p : ℕ) → Whole llc m (drop p file) → Placed llc m file (row_at m p (drop p file))
  unfolding row_at
  here-placed p w = record { chunk = w; row = refl }

  -- a reading from the place p on
  pub rows-placed : (n : ℕ) (seen : List (List ℕ)) (p : ℕ) → AllPlaced llc m file (read_rows n llc m seen p (drop p file)).rows
  unfolding halt onto
  rows-placed zero seen p =
      step-cases llc m seen (drop p file)
      (λ q. rw (q, read-end llc m zero seen p) none-placed)
      (λ j q e. rw (read-stop llc m zero seen p _ j q e) none-placed)
      (λ q e. rw (read-full llc m seen p _ q e) none-placed)
  rows-placed (suc n) seen p =
      step-cases llc m seen (drop p file)
      (λ q. rw (q, read-end llc m (suc n) seen p) none-placed)
      (λ j q e. rw (read-stop llc m (suc n) seen p _ j q e) none-placed)
      (λ q e. rw (read_step llc m n seen p _ q e, drop-drop (chunk_end m (drop p file)) p file)
      (one_more (row_at m p (drop p file)) _ (here-placed p (next-whole llc m seen _ e)) (rows-placed n (serial_of m (drop p file) ∷ seen) (p + chunk_end m (drop p file)))))

pub file-placed : (file : List ℕ) → AllPlaced (is_llc file) (mark_of file) file (rows_of file)
unfolding rows_behind
file-placed file =
    header-cases file
    (λ e. rw (rows-begun file e) (rows-placed (is_llc file) (mark_of file) file (length file) [] (header_end file)))
    (λ e. rw (rows-unbegun file e) (none-placed (is_llc file) (mark_of file) file))

pub row-placed : (file : List ℕ) (k : ℕ) → k < length (rows_of file) → Placed (is_llc file) (mark_of file) file (row_no (rows_of file) k)
unfolding AllPlaced
row-placed file k h = file-placed file k h

-- ---- a placed row lies inside the file

module _ (llc : Bool) (m file : List ℕ) (r : Row) (w : Placed llc m file r) where
  placed-end-is : r.end ≡ r.place + chunk_end m (drop r.place file)
  unfolding row_at
  placed-end-is = ap (λ (x : Row). x.end) w.row

  fits-end : r.place + chunk_end m (drop r.place file) ≤ length file
  fits-end =
      let h = simp length-drop at (fits llc m (drop r.place file) w.chunk) in
      omega (arith, least m (drop r.place file))

  pub placed_end : r.end ≤ length file
  placed_end = omega (arith, placed-end-is, fits-end)

  pub placed-least : r.place + 856 ≤ r.end
  placed-least = omega (arith, placed-end-is, least m (drop r.place file))

  pub placed-dependencies : r.place + (568 + 344 * r.dependencies) ≤ r.place + r.header
  unfolding row_at header_bytes header_bytes_for
  placed-dependencies =
      let d = ap (λ (x : Row). x.dependencies) w.row in
      let h = ap (λ (x : Row). x.header) w.row in
      omega arith

  pub placed-header : r.place + r.header ≤ r.contents
  unfolding row_at contents_place
  placed-header =
      let c = ap (λ (x : Row). x.contents) w.row in
      let h = ap (λ (x : Row). x.header) w.row in
      omega arith

  pub placed-contents : r.contents + r.bytes + 254 ≤ r.end
  unfolding row_at chunk_end closing_end closing_place
  placed-contents =
      let c = ap (λ (x : Row). x.contents) w.row in
      let b = ap (λ (x : Row). x.bytes) w.row in
      let e = ap (λ (x : Row). x.end) w.row in
      omega arith

-- each row of a file's reading, with its header, dependencies and contents
pub record RowInside (file : List ℕ) (r : Row) : Type 0 where
  pub dependencies-inside : r.place + (568 + 344 * r.dependencies) ≤ length file
  pub header-inside : r.place + r.header ≤ length file
  pub contents-inside : r.contents + r.bytes ≤ length file
  pub end-inside : r.end ≤ length file

pub row_inside : (file : List ℕ) (k : ℕ) → k < length (rows_of file) → RowInside file (row_no (rows_of file) k)
row_inside file k h =
    let r : Row = row_no (rows_of file) k in
    let w = row-placed file k h in
    let llc : Bool = is_llc file in
    let m : List ℕ = mark_of file in
    let d = placed-dependencies llc m file r w in
    let s = placed-header llc m file r w in
    let c = placed-contents llc m file r w in
    let e = placed_end llc m file r w in
    record { dependencies-inside = omega arith; header-inside = omega arith; contents-inside = omega arith; end-inside = omega arith }

-- ---- what is copied from a whole chunk

-- a field that passes does so by itself
pub taken-alone : (n : ℕ) (own : List ℕ → ℕ) (s : List ℕ) → field_fault n own s ≡ 0 → (length (take n s) ≡ n) × (field_fault n own (take n s) ≡ 0)
taken-alone n own s e =
    let long = field-enough n own s e in
    let same_length : length (take n s) ≡ n = length-take-le n s long in
    let fits-it : n ≤ length (take n s) = omega arith in
    let whole-it : take n (take n s) ≡ take n s = take-take n n s (omega arith) in
    (same_length, field-long n own (take n s) fits-it ∙ ap own whole-it ∙ field-own n own s e)

module _ (llc : Bool) (m s : List ℕ) (w : Whole llc m s) where
  pub serial-taken : (length (serial_of m s) ≡ 38) × (kind_fault serial (serial_of m s) ≡ 0)
  unfolding serial_of closing_serial closing summed unsummed lines kind_fault fault
  serial-taken =
      let place : closing_place m s + length m + 20 ≡ closing_place m s + (length m + 20) = omega arith in
      rw (place, ← drop-drop (length m + 20) (closing_place m s) s)
      (taken-alone 38 serial_fault (drop (length m + 20) (drop (closing_place m s) s))
      (run_at (fixed m ∷ fixed chunk_serial.label ∷ []) (value serial)
      ((lf ∷ lines_of (recording_date ∷ recording_agent ∷ writing_date ∷ writing_agent ∷ []) ++ fixed checksum.label ∷ []) ++ unsummed m)
      (drop (closing_place m s) s) w.in-closing))

  pub sub_format-taken : (length (sub_format s) ≡ 256) × (kind_fault (text 256) (sub_format s) ≡ 0)
  unfolding sub_format head lines kind_fault fault
  sub_format-taken =
      taken-alone 256 text_fault (drop 46 s)
      (run_at (lines_of (chunk_header_length ∷ []) ++ fixed sub_format_id.label ∷ []) (value (text 256))
      (lf ∷ lines_of (generic_type ∷ time_and_event ++ dependency_length ∷ []) ++ opened dependency_count) s w.in_head)

  pub writing-dated : is_date (writing_date_of m s) ≡ true
  unfolding writing_date_of closing summed unsummed lines kind_fault fault
  writing-dated =
      let place : closing_place m s + length m + 163 ≡ closing_place m s + (length m + 163) = omega arith in
      rw (place, ← drop-drop (length m + 163) (closing_place m s) s)
      (date-good _ (field-own 8 date_fault (drop (length m + 163) (drop (closing_place m s) s))
      (run_at (fixed m ∷ lines_of (chunk_serial ∷ recording_date ∷ recording_agent ∷ []) ++ fixed writing_date.label ∷ []) (value date)
      ((lf ∷ lines_of (writing_agent ∷ []) ++ fixed checksum.label ∷ []) ++ unsummed m)
      (drop (closing_place m s) s) w.in-closing)))
