-- Rows named as parents, in the file and in the lines written of them.
--     name-.. serial-..   where the sub-format and the serial number of a row stand in the file
--     parent-.. parents-..   the two lines of each row named as parent
--     end_fits serial-fits name-fits parent-lines   the same of rows known by where their chunks begin and end
-- Assumes nothing.
use Prim.Native.Nat.{ℕ, zero, suc, ◌+◌, ◌-◌, ◌*◌, ◌≤◌, ◌<◌}
use mathlib.Core.Bool.{true}
use mathlib.Core.Path.{◌≡◌, refl, sym, ap, ◌∙◌}
use mathlib.Core.List.{List, [], ◌∷◌, ◌++◌, append-nil}
use native.Mathlib.Numerals.{add-one}
use native.Mathlib.Omega.{arith}
use lib.Dec.{ltb}
use lib.ListN.{length, drop, get_or, length-append, length-drop, drop_of_length-le}
use lib.Seq.{drop-cons, drop-drop}
use borrow.Author.Tests.{lt-ltb, ltb-true}
use Rattle.metafile.specs.declared.Row.{Row}
use Rattle.metafile.specs.Bytes.{part}
use Rattle.metafile.specs.Lines.{lines_of, size, first_of, others_of, put, left, write, table, dependency_serial, dependency_sub_format}
use Rattle.metafile.specs.Header.{is_llc, mark_of}
use Rattle.metafile.specs.Chunk.{dependency_fields, sub_format, row_at}
use Rattle.metafile.specs.Reading.{rows_of}
use Rattle.metafile.specs.Answers.{placed}
use Rattle.metafile.specs.Append.{row_no, sub_format_of, parent_values, all_below}
use Rattle.laws.proofs.First.{and_both}
use Rattle.laws.proofs.Table.{lefts, write-split}
use Rattle.laws.proofs.Loops.{placed-nothing}
use Rattle.laws.proofs.Distances.{lines}
use Rattle.chunk_laws.proofs.Places.{Placed, row-placed, row_inside, serial-taken, sub_format-taken}
use Rattle.walk.proofs.Serials.{serial_place, serial-place-is, serial-place-some, serial-place-inside}
use Rattle.walk.specs.Survey.{values_below}
use Rattle.table.specs.Codes.{lines_from}
use Rattle.lines.specs.Values.{chopped, values_size}
use Rattle.writer.specs.Values.{joined}
use Rattle.writer.specs.Parents.{Located}
use Rattle.writer.proofs.Placed.{placed_on}
use Rattle.writer.proofs.Joined.{Fills, chopped-joined, write-length}

-- ---- a row

module _ (file : List ℕ) (k : ℕ) (inside : k < length (rows_of file)) where
  abbrev pub row : Row
  row = row_no (rows_of file) k

  here : Placed (is_llc file) (mark_of file) file row
  here = row-placed file k inside

  -- its sub-format stands 46 bytes behind its place
  pub name-inside : row.place + 46 + 256 ≤ length file
  name-inside = omega (arith, (row_inside file k inside).dependencies-inside)

  pub name-part : part (row.place + 46) 256 file ≡ sub_format_of file row
  unfolding sub_format_of sub_format
  name-part = rw (← drop-drop 46 row.place file)

  pub name-long : length (sub_format_of file row) ≡ 256
  unfolding sub_format_of
  name-long = (sub_format-taken (is_llc file) (mark_of file) (drop row.place file) here.chunk).0

  -- its serial number stands in its closing
  pub serial-inside : (length (mark_of file) + 234 ≤ row.end) × (row.end - (length (mark_of file) + 234) + 38 ≤ length file)
  unfolding serial_place
  serial-inside = (
    omega (arith, serial-place-some (is_llc file) (mark_of file) file row here),
    serial-place-inside (is_llc file) (mark_of file) file row here,
  )

  pub serial-part : part (row.end - (length (mark_of file) + 234)) 38 file ≡ row.serial
  unfolding serial_place
  serial-part = sym (serial-place-is (is_llc file) (mark_of file) file row here)

  pub serial-long : length row.serial ≡ 38
  unfolding row_at
  serial-long =
      ap length (ap (λ (x : Row). x.serial) here.row)
      ∙ (serial-taken (is_llc file) (mark_of file) (drop row.place file) here.chunk).0

-- ---- parents

pub parent-size : values_size (lines_from 9 2) ≡ 294
unfolding lines_from table values_size lines
parent-size = refl

pub parent-bytes : size (lines_of (lines_from 9 2)) ≡ 344
unfolding lines_from table lines
parent-bytes = refl

pub parent-written : (serial name v : List ℕ) → length serial ≡ 38 → length name ≡ 256 → v ≡ joined (serial ∷ name ∷ [])
    → write (lines_of (lines_from 9 2)) (chopped (lines_from 9 2) v) ≡ write (dependency_fields 1) (serial ∷ name ∷ [])
unfolding dependency_fields Fills lines lines_from table
parent-written serial name v s n e =
    rw (e, chopped-joined (dependency_serial ∷ dependency_sub_format ∷ []) (serial ∷ name ∷ []) (s, (n, tt)), append-nil)

module _ (old : List ℕ) where
  -- the lines of these parents
  unfoldable pub parent_lines : List ℕ → List ℕ
  parent_lines ks = write (dependency_fields (length ks)) (parent_values old (rows_of old) ks)

  parent-fills : (k : ℕ) → k < length (rows_of old) → Fills (dependency_serial ∷ dependency_sub_format ∷ []) (parent_values old (rows_of old) (k ∷ []))
  unfolding Fills parent_values lines
  parent-fills k h = (serial-long old k h, (name-long old k h, tt))

  one_parent : (k : ℕ) → write (lines_of (dependency_serial ∷ dependency_sub_format ∷ [])) (parent_values old (rows_of old) (k ∷ [])) ≡ parent_lines (k ∷ [])
  unfolding parent_lines dependency_fields
  one_parent k = rw append-nil

  one-length : (k : ℕ) → k < length (rows_of old) → length (parent_lines (k ∷ [])) ≡ 344
  unfolding lines_from table
  one-length k h = ap length (sym (one_parent k)) ∙ write-length (dependency_serial ∷ dependency_sub_format ∷ []) _ (parent-fills k h) ∙ parent-bytes

  -- the first two values go into the first two lines
  first_two : (v w : List ℕ) (n : ℕ) (vs : List (List ℕ))
      → write (lines_of (dependency_serial ∷ dependency_sub_format ∷ [])) (v ∷ w ∷ vs)
      ++ write (dependency_fields n) (lefts (lines_of (dependency_serial ∷ dependency_sub_format ∷ [])) (v ∷ w ∷ vs))
      ≡ write (lines_of (dependency_serial ∷ dependency_sub_format ∷ []) ++ []) (v ∷ w ∷ []) ++ write (dependency_fields n) vs
  unfolding lines write put left first_of others_of lefts
  first_two v w n vs = refl

  parents-next : (k : ℕ) (ks : List ℕ) → parent_lines (k ∷ ks) ≡ parent_lines (k ∷ []) ++ parent_lines ks
  unfolding parent_lines dependency_fields parent_values
  parents-next k ks =
      let v : List ℕ = (row_no (rows_of old) k).serial in
      let w : List ℕ = sub_format_of old (row_no (rows_of old) k) in
      let vs : List (List ℕ) = parent_values old (rows_of old) ks in
      write-split (lines_of (dependency_serial ∷ dependency_sub_format ∷ [])) (dependency_fields (length ks)) (v ∷ w ∷ vs) ∙ first_two v w (length ks) vs

  below-first : (k : ℕ) (ks : List ℕ) → all_below (length (rows_of old)) (k ∷ ks) ≡ true → (k < length (rows_of old)) × (all_below (length (rows_of old)) ks ≡ true)
  unfolding all_below
  below-first k ks e =
      let h = and_both (ltb k (length (rows_of old))) (all_below (length (rows_of old)) ks) e in
      (ltb-true k (length (rows_of old)) h.0, h.1)

  below-drop : (i : ℕ) (ks : List ℕ) → all_below (length (rows_of old)) ks ≡ true → all_below (length (rows_of old)) (drop i ks) ≡ true
  below-drop zero ks e = e
  below-drop (suc i) [] e = e
  below-drop (suc i) (k ∷ ks) e = below-drop i ks (below-first k ks e).1

  pub parents-length : (ks : List ℕ) → all_below (length (rows_of old)) ks ≡ true → length (parent_lines ks) ≡ 344 * length ks
  parents-length [] e = unfold parent_lines dependency_fields write in refl
  parents-length (k ∷ ks) e =
      let h = below-first k ks e in
      let one = one-length k h.0 in
      let more = parents-length ks h.1 in
      rw (parents-next k ks) (simp length-append (omega arith))

  -- ---- the loop: what is left to put at p gives what was to be put

  module _ (ks : List ℕ) (below : all_below (length (rows_of old)) ks ≡ true) (i : ℕ) (inside : i < length ks) where
    rest-is : drop i ks ≡ get_or ks i 0 ∷ drop (i + 1) ks
    rest-is = rw (add-one i) (drop-cons ks i 0 inside)

    rest_below : (get_or ks i 0 < length (rows_of old)) × (all_below (length (rows_of old)) (drop (i + 1) ks) ≡ true)
    rest_below = below-first (get_or ks i 0) (drop (i + 1) ks) (rw (← rest-is) (below-drop i ks below))

    pub parent-below : get_or ks i 0 < length (rows_of old)
    parent-below = rest_below.0

    pub parents-more : (p q : ℕ) (b b' goal : List ℕ) → placed p (parent_lines (drop i ks)) b ≡ goal → p + 344 * (length ks - i) ≤ length b → q ≡ p + 344
        → b' ≡ placed p (parent_lines (get_or ks i 0 ∷ [])) b → placed q (parent_lines (drop (i + 1) ks)) b' ≡ goal
    parents-more p q b b' goal e h eq e' =
        let one = one-length (get_or ks i 0) rest_below.0 in
        let more = parents-length (drop (i + 1) ks) rest_below.1 in
        let left_over : length (drop (i + 1) ks) + 1 ≡ length ks - i = omega (arith, ap length rest-is, length-drop i ks) in
        let at : q ≡ p + length (parent_lines (get_or ks i 0 ∷ [])) = omega arith in
        let fits : p + length (parent_lines (get_or ks i 0 ∷ [])) + length (parent_lines (drop (i + 1) ks)) ≤ length b = omega arith in
        placed_on p q (parent_lines (get_or ks i 0 ∷ [])) (parent_lines (drop (i + 1) ks)) b b' e' at fits
        ∙ ap (λ (v : List ℕ). placed p v b) (sym (parents-next (get_or ks i 0) (drop (i + 1) ks)) ∙ ap parent_lines (sym rest-is))
        ∙ e

  parents-none : (ks : List ℕ) (i : ℕ) → length ks ≤ i → parent_lines (drop i ks) ≡ []
  unfolding parent_lines dependency_fields write
  parents-none ks i h = rw (drop_of_length-le ks {i = i} h)

  pub parents-done : (ks : List ℕ) (i p : ℕ) (b goal : List ℕ) → length ks ≤ i → placed p (parent_lines (drop i ks)) b ≡ goal → b ≡ goal
  parents-done ks i p b goal h e = sym (placed-nothing p b) ∙ ap (λ (v : List ℕ). placed p v b) (sym (parents-none ks i h)) ∙ e

-- ---- rows by where they stand

-- the value of the i-th row named
value-at : (w : ℕ) (f : ℕ → ℕ) (n : ℕ) (ks : List ℕ) (i : ℕ) → length ks ≤ w → i < length ks → get_or ks i 0 < n → get_or (values_below w f n ks) i 0 ≡ f (get_or ks i 0)
unfolding values_below
value-at zero f n ks i l h b = absurd (omega arith)
value-at (suc w) f n [] i l h b = absurd (omega arith)
value-at (suc w) f n (k ∷ ks) zero l h b = rw (lt-ltb k n b)
value-at (suc w) f n (k ∷ ks) (suc i) l h b = value-at w f n ks i (omega arith) (omega arith) b

module _ (file : List ℕ) (mark : ℕ) (ks places ends : List ℕ) (at : Located file mark ks places ends) (i : ℕ) (h : i < length ks) where
  k : ℕ
  k = get_or ks i 0

  in-reading : k < length (rows_of file)
  unfolding k
  in-reading = parent-below file ks at.below i h

  place_is : get_or places i 0 ≡ (row_no (rows_of file) k).place
  unfolding k
  place_is =
      ap (λ (v : List ℕ). get_or v i 0) at.places-are
      ∙ value-at 16 (λ (k : ℕ). (row_no (rows_of file) k).place) (length (rows_of file)) ks i at.few h in-reading

  end_is : get_or ends i 0 ≡ (row_no (rows_of file) k).end
  unfolding k
  end_is =
      ap (λ (v : List ℕ). get_or v i 0) at.ends-are
      ∙ value-at 16 (λ (k : ℕ). (row_no (rows_of file) k).end) (length (rows_of file)) ks i at.few h in-reading

  pub end_fits : (mark + 234 ≤ get_or ends i 0) × (get_or ends i 0 ≤ length file)
  end_fits = (omega (arith, end_is, at.mark-is, (serial-inside file k in-reading).0), omega (arith, end_is, (row_inside file k in-reading).end-inside))

  pub serial-fits : get_or ends i 0 - (mark + 234) + 38 ≤ length file
  serial-fits = omega (arith, end_is, at.mark-is, (serial-inside file k in-reading).1)

  pub name-fits : get_or places i 0 + 46 + 256 ≤ length file
  name-fits = omega (arith, place_is, name-inside file k in-reading)

  pub parent-lines : write (dependency_fields 1) (part (get_or ends i 0 - (mark + 234)) 38 file ∷ part (get_or places i 0 + 46) 256 file ∷ []) ≡ parent_lines file (get_or ks i 0 ∷ [])
  unfolding k parent_lines parent_values
  parent-lines =
      let long = at.mark-is in
      rw (place_is, end_is, long, serial-part file k in-reading, name-part file k in-reading)
