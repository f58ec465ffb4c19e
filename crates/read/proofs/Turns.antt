-- What holds of the loop of the call read, with nothing of the program logic in it ("Reading": "Rows are a lent list of
-- records; those past the count are not written").
--     Facts c ys ix       the loop's test is reached with the cursor c, the table ys and the index ix
--     begins              at the first test.        turn     after a turn
--     over full stops     the file is over the limit, the table is full, the cursor stops
-- Rests on the laws of a cursor and of a reading into n rows. Assumes nothing.
use Prim.Native.Nat.{ℕ, ◌+◌, ◌≤◌, ◌<◌, min}
use mathlib.Core.Bool.{Bool, true, false}
use mathlib.Core.Path.{◌≡◌, refl, sym, ap, ◌∙◌}
use mathlib.Core.List.{List, [], ◌∷◌, ◌++◌}
use native.Mathlib.Numerals.{add-one}
use native.Mathlib.Omega.{arith}
use borrow.Author.Tests.{lt-ltb, leb-true, leb-false}
use lib.Dec.{leb}
use lib.ListN.{length, take, drop, set, length-set, take-append-drop}
use lib.Seq.{take-suc, take-suc-set, drop-set-lt, drop-drop, length-take-le, take_all}
use Rattle.metafile.specs.declared.Row.{Row}
use Rattle.metafile.specs.declared.ReadAnswer.{ReadAnswer}
use Rattle.metafile.specs.Reading.{Reading, read_file, rows_of}
use Rattle.metafile.specs.Answers.{over_limit}
use Rattle.metafile.specs.Append.{no_row, row_no}
use Rattle.metafile.specs.Calls.{read_answer, nothing_read, filled, read}
use Rattle.laws.proofs.First.{test}
use Rattle.chunk_laws.proofs.File.{file-rows, file-reading}
use Rattle.walk.specs.Walk.{place_after}
use Rattle.walk.specs.declared.cursor.Cursor.{Cursor}
use Rattle.walk.specs.Cursor.{At}
use Rattle.read.specs.State.{read_outcome, answer_of}
use Rattle.walk.proofs.Stages.{header_is}
use Rattle.walk.proofs.Cursors.{There, there, stops as cursor-stops}
use Rattle.walk.proofs.Steps.{lent-stop, lent-number, lent-good}

-- ---- the call's answer

module _ (file : List ℕ) (table : List Row) where
  pub read-over : over_limit (length file ∷ []) ≡ true → read file table ≡ read_outcome nothing_read table
  unfolding read read_outcome
  read-over q = rw q

  pub read_under : over_limit (length file ∷ []) ≡ false
      → read file table ≡ read_outcome (read_answer (read_file (length table) file)) (filled (read_file (length table) file) table)
  unfolding read read_outcome
  read_under q = rw q

same_answer : {c d s t k l : ℕ} {g h : Bool} → c ≡ d → s ≡ t → g ≡ h → k ≡ l
    → ◌≡◌ {A = ReadAnswer} (record { count = c; stop = s; good = g; number = k }) (record { count = d; stop = t; good = h; number = l })
same_answer count stop good number = cc

outcome : {a b : ReadAnswer} {s t : List Row} → a ≡ b → s ≡ t → read_outcome a s ≡ read_outcome b t
outcome p q = cc

take-least : (a : ℕ) (l : List Row) (n : ℕ) → n ≡ min a (length l) → take a l ≡ take n l
take-least a l n least =
    test (leb (length l) a)
    (λ q. let h = leb-true (length l) a q in take_all a l h ∙ sym (take_all n l (omega arith)))
    (λ q. let h = leb-false (length l) a q in let same : a ≡ n = omega arith in rw same)

-- ---- the loop

module _ (fs : List ℕ) (xs : List Row) where
  -- the rows passed are written, and the table is else as it was
  pub record Facts (c : Cursor) (ys : List Row) (ix : List ℕ) : Type 0 where
    pub at : At fs c ix
    pub few : c.row ≤ length xs
    pub len : length ys ≡ length xs
    pub done : take c.row ys ≡ take c.row (rows_of fs)
    pub rest : drop c.row ys ≡ drop c.row xs

  pub begins : {c : Cursor} {ix : List ℕ} → At fs c ix × (c.row ≡ 0) → Facts c xs ix
  begins w = record { at = w.0; few = omega (arith, w.1); len = refl; done = rw w.1; rest = refl }

  -- the table holds these rows and is else as it was
  table_is : (ys rows : List Row) (n : ℕ) → take n ys ≡ rows → length rows ≡ n → drop n ys ≡ drop n xs → ys ≡ rows ++ drop (length rows) xs
  table_is ys rows n done count rest = rw (count, ← rest, ← done, take-append-drop n ys)

  pub over : over_limit (length fs ∷ []) ≡ true → read_outcome (record { count = 0; stop = 0; good = false; number = 11 }) xs ≡ read fs xs
  unfolding nothing_read
  over q = rw (read-over fs xs q)

  module _ {c : Cursor} {ys : List Row} {ix : List ℕ} (f : Facts c ys ix) where
    -- all rows that there is room for are written
    written : (number : ℕ) → over_limit (length fs ∷ []) ≡ false → c.row ≡ min (length xs) (length (rows_of fs))
        → c.at ≡ (read_file (length xs) fs).stop → c.header.good ≡ (read_file (length xs) fs).good → number ≡ (read_file (length xs) fs).number
        → read_outcome (answer_of c number) ys ≡ read fs xs
    unfolding answer_of read_answer filled
    written number q least stop good same =
        let r : Reading = read_file (length xs) fs in
        let rows : r.rows ≡ take c.row (rows_of fs) = file-rows (length xs) fs ∙ take-least (length xs) (rows_of fs) c.row least in
        let count : length r.rows ≡ c.row = ap length rows ∙ length-take-le c.row (rows_of fs) (omega arith) in
        let answer = same_answer (sym count) stop good same in
        let table = table_is ys r.rows c.row (f.done ∙ sym rows) count f.rest in
        outcome answer table ∙ sym (read_under fs xs q)

    module _ (g : c.go ≡ true) where
      here : There fs c
      here = there f.at g

      pub turn : c.row < length ys → (r : Row) → r ≡ row_no (rows_of fs) c.row → {d : Cursor} {jx : List ℕ} → At fs d jx × (d.row ≡ c.row + 1)
          → Facts d (set ys c.row r) jx
      unfolding row_no
      turn within r is {d} w =
          record {
            at = w.0;
            few = omega (arith, w.1, f.len);
            len = length-set ys c.row r ∙ f.len;
            done = rw (w.1, add-one c.row, take-suc-set ys c.row r within, take-suc (rows_of fs) c.row no_row here.turn.row, f.done, is);
            rest = rw w.1 (drop-set-lt (c.row + 1) ys c.row r (omega arith) ∙ sym (drop-drop 1 c.row ys) ∙ ap (drop 1) f.rest ∙ drop-drop 1 c.row xs);
          }

      -- a row is there, and no room for it
      pub full : length ys ≤ c.row → over_limit (length fs ∷ []) ≡ false → read_outcome (answer_of c 10) ys ≡ read fs xs
      full h q =
          let w = here in
          let least : c.row ≡ min (length xs) (length (rows_of fs)) = omega (arith, f.few, f.len, w.turn.row) in
          let room : length xs < length (rows_of fs) = omega (arith, f.len, w.turn.row) in
          written 10 q least
          (w.behind.place_is ∙ ap (place_after fs) least ∙ sym (lent-stop fs w.begun (length xs)))
          ((header_is _ fs w.behind.header_is w.behind.whole).good-is ∙ sym (lent-good fs w.begun (length xs)))
          (sym (lent-number fs w.begun (length xs) ∙ rw (lt-ltb (length xs) (length (rows_of fs)) room)))

    pub stops : c.go ≡ false → over_limit (length fs ∷ []) ≡ false → read_outcome (answer_of c c.number) ys ≡ read fs xs
    stops g q =
        let w = cursor-stops f.at g in
        let all = file-reading (length xs) fs (omega (arith, w.count, f.few)) in
        written c.number q (omega (arith, w.count, f.few)) (rw all w.stop) (rw all w.good-is) (rw all w.number_is)
