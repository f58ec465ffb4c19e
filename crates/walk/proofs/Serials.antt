-- Serial numbers in the rows so far ("9 whole chunk, serial already in a row"; "the row with that serial").
--     known_past                          the rows so far, in whatever order
--     known-none known_more               row by row
--     with-here                           the row that has it
--     with-least with-before known-with   that row, by whether the first rows have it
--     with-only with-other                serial numbers are in one row only: a row that has it, one that hasn't
--     serial-place-..                     the serial number of a row is the 38 bytes at its place in the file, which is not 0
-- Assumes nothing.
use Prim.Native.Nat.{ℕ, zero, suc, ◌+◌, ◌-◌, ◌≤◌, ◌<◌}
use mathlib.Core.Bool.{Bool, true, false, ◌||◌}
use mathlib.Core.Path.{◌≡◌, refl, sym, ap, ◌∙◌}
use mathlib.Core.List.{List, [], ◌∷◌}
use native.Mathlib.Omega.{arith}
use lib.Dec.{ltb}
use lib.ListN.{length, take, drop}
use lib.Seq.{drop-cons, drop-drop}
use borrow.Author.Tests.{lt-ltb, le-ltb}
use Rattle.metafile.specs.declared.Row.{Row}
use Rattle.metafile.specs.Bytes.{part}
use Rattle.metafile.specs.Fields.{same_serial, known}
use Rattle.metafile.specs.Closing.{closing_end, closing_serial}
use Rattle.metafile.specs.Chunk.{closing_place, chunk_end, serial_of, row_at}
use Rattle.metafile.specs.Reading.{serials_of}
use Rattle.metafile.specs.Append.{no_row, row_no}
use Rattle.metafile.specs.Calls.{row_with}
use Rattle.laws.proofs.First.{test, untrue, or-false, or-none}
use Rattle.laws.proofs.SameSerial.{serial-swap}
use Rattle.chunk_laws.proofs.Rows.{past}
use Rattle.chunk_laws.proofs.Serials.{fresh, row_with-self}
use Rattle.chunk_laws.proofs.Places.{Placed, placed_end}

or_assoc : (a b c : Bool) → (a || (b || c)) ≡ ((a || b) || c)
or_assoc true b c = refl
or_assoc false b c = refl

or_swap : (a b c : Bool) → (b || (a || c)) ≡ ((a || b) || c)
or_swap true true c = refl
or_swap true false c = refl
or_swap false b c = refl

module _ (x : List ℕ) where
  known_both : (rs : List Row) (seen : List (List ℕ)) → known x (past rs seen) ≡ (known x (serials_of rs) || known x seen)
  unfolding known past serials_of
  known_both [] seen = refl
  known_both (r ∷ rs) seen =
      known_both rs (r.serial ∷ seen) ∙ or_swap (same_serial x r.serial) (known x (serials_of rs)) (known x seen)

  pub known_past : (rs : List Row) → known x (past rs []) ≡ known x (serials_of rs)
  unfolding known
  known_past rs = known_both rs [] ∙ or-none (known x (serials_of rs))

  pub known-none : (rows : List Row) → known x (serials_of (take 0 rows)) ≡ false
  unfolding known serials_of
  known-none rows = refl

  pub known_more : (rows : List Row) (j : ℕ) → j < length rows
      → known x (serials_of (take (suc j) rows)) ≡ (known x (serials_of (take j rows)) || same_serial x (row_no rows j).serial)
  unfolding known serials_of row_no
  known_more [] j h = absurd (omega arith)
  known_more (r ∷ rs) zero h = or-none (same_serial x r.serial)
  known_more (r ∷ rs) (suc j) h =
      ap (λ (b : Bool). same_serial x r.serial || b) (known_more rs j (omega arith))
      ∙ or_assoc (same_serial x r.serial) (known x (serials_of (take j rs))) (same_serial x (row_no rs j).serial)

  -- the row that has it is behind those that don't
  with-behind : (rows : List Row) (i : ℕ) → i ≤ length rows → known x (serials_of (take i rows)) ≡ false → row_with x rows ≡ i + row_with x (drop i rows)
  unfolding known serials_of row_with
  with-behind rows zero h y = omega arith
  with-behind [] (suc i) h y = absurd (omega arith)
  with-behind (r ∷ rs) (suc i) h y =
      let k = or-false (same_serial x r.serial) (known x (serials_of (take i rs))) y in
      rw k.0 (omega (arith, with-behind rs i (omega arith) k.1))

  pub with-here : (rows : List Row) (i : ℕ) → i < length rows → known x (serials_of (take i rows)) ≡ false → same_serial x (row_no rows i).serial ≡ true → i ≡ row_with x rows
  unfolding row_with row_no
  with-here rows i h y q =
      sym (with-behind rows i (omega arith) y ∙ rw (drop-cons rows i no_row h, q) (omega arith))

  pub with-least : (rows : List Row) (i : ℕ) → i ≤ length rows → known x (serials_of (take i rows)) ≡ false → i ≤ row_with x rows
  with-least rows i h y = omega (arith, with-behind rows i h y)

  with-before : (rows : List Row) (i : ℕ) → known x (serials_of (take i rows)) ≡ true → row_with x rows < i
  unfolding known serials_of row_with
  with-before rows zero y = untrue y
  with-before [] (suc i) y = untrue y
  with-before (r ∷ rs) (suc i) y =
      test (same_serial x r.serial)
      (λ q. rw q (omega arith))
      (λ q. rw q (omega (arith, with-before rs i (rw q at y))))

  pub known-with : (rows : List Row) (i : ℕ) → i ≤ length rows → ltb (row_with x rows) i ≡ known x (serials_of (take i rows))
  known-with rows i h =
      test (known x (serials_of (take i rows)))
      (λ q. rw q (lt-ltb _ _ (with-before rows i q)))
      (λ q. rw q (le-ltb _ _ (with-least rows i h q)))

  -- the same serial number is in the same row
  with-same : (y : List ℕ) → same_serial x y ≡ true → (rows : List Row) → row_with x rows ≡ row_with y rows
  unfolding row_with
  with-same y q [] = refl
  with-same y q (r ∷ rs) = rw (serial-swap x y r.serial q, with-same y q rs)

  -- a row that has it is that row, whatever stands before it
  pub with-only : (rows : List Row) (i : ℕ) → i < length rows → fresh [] rows ≡ true → same_serial x (row_no rows i).serial ≡ true → row_with x rows ≡ i
  with-only rows i h f q = with-same (row_no rows i).serial q rows ∙ row_with-self rows [] i h f

  pub with-other : (rows : List Row) (i : ℕ) → i < length rows → same_serial x (row_no rows i).serial ≡ false → row_with x rows ≡ i → ⊥
  unfolding row_with row_no
  with-other [] i h q w = omega arith
  with-other (r ∷ rs) zero h q w = omega (arith, rw q at w)
  with-other (r ∷ rs) (suc i) h q w =
      test (same_serial x r.serial)
      (λ y. omega (arith, rw y at w))
      (λ y. with-other rs i (omega arith) q (omega (arith, rw y at w)))

-- ---- the serial number of a row, at its place in the file

-- in its closing, 234 bytes and the mark before its end
unfoldable pub serial_place : List ℕ → Row → ℕ
serial_place m r = r.end - (length m + 234)

module _ (llc : Bool) (m file : List ℕ) (r : Row) (w : Placed llc m file r) where
  serial-behind : serial_place m r ≡ r.place + (closing_place m (drop r.place file) + length m + 20)
  unfolding serial_place row_at chunk_end closing_end
  serial-behind = omega (arith, ap (λ (x : Row). x.end) w.row)

  pub serial-place-is : r.serial ≡ part (serial_place m r) 38 file
  unfolding row_at serial_of closing_serial
  serial-place-is =
      ap (λ (x : Row). x.serial) w.row
      ∙ rw (serial-behind, ← drop-drop (closing_place m (drop r.place file) + length m + 20) r.place file)

  pub serial-place-some : 0 < serial_place m r
  serial-place-some = omega (arith, serial-behind)

  pub serial-place-inside : serial_place m r + 38 ≤ length file
  unfolding serial_place
  serial-place-inside = omega (arith, serial-place-some, placed_end llc m file r w)
