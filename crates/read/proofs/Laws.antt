-- Laws of the rows that a reading goes through.
--     mark-end part-long row-whole row-at   the row of a cursor, as the function row is given its chunk
--     next-indexed next-none next-some   the rows one by one, by a cursor
--     next-goes next-stops next-behind   what the next row says of the reading
--     Known known                      a cursor at a row that is known to be there
-- Rests on the laws of a cursor in walk. Assumes nothing.
use Prim.Native.Nat.{ℕ, ◌+◌, ◌-◌, ◌≤◌, ◌<◌}
use mathlib.Core.Bool.{true, false}
use mathlib.Core.Path.{◌≡◌, sym, ap, ◌∙◌}
use mathlib.Core.List.{List}
use native.Mathlib.Omega.{arith}
use borrow.Author.Tests.{ltb-true, ltb-false, lt-ltb, le-ltb}
use lib.Dec.{ltb}
use lib.ListN.{length, take, drop, length-drop}
use Rattle.metafile.specs.declared.Row.{Row}
use Rattle.metafile.specs.Chunk.{row_at}
use Rattle.metafile.specs.Reading.{rows_of}
use Rattle.metafile.specs.Append.{no_row, row_no}
use Rattle.laws.proofs.First.{test, untrue}
use Rattle.laws.proofs.Loops.{part-drop}
use Rattle.chunk.specs.Layout.{WholeLayout}
use Rattle.walk.specs.declared.answers.Header.{Header}
use Rattle.walk.specs.declared.cursor.Cursor.{Cursor}
use Rattle.walk.specs.Index.{Indexed}
use Rattle.walk.specs.Cursor.{Behind, cursor_at, At}
use Rattle.walk.proofs.Stages.{HeaderIs, header_is, mark-part, mark-inside}
use Rattle.walk.proofs.Steps.{row_is}
use Rattle.walk.proofs.Index.{indexed-more}
use Rattle.walk.proofs.Loops.{given-whole}
use Rattle.walk.proofs.Cursors.{There, cursor-row as row-cursor, onward-row, stops, there}
use Rattle.read.specs.declared.rows.Next.{Next}
use Rattle.read.specs.State.{next_of}

-- ---- the row of a cursor

module _ {file : List ℕ} {c : Cursor} (w : There file c) where
  header : HeaderIs c.header file
  header = header_is c.header file w.behind.header_is w.behind.whole

  pub mark-end : 65 + c.header.mark ≤ length file
  mark-end = omega (arith, mark-inside file w.begun c.header.mark header.mark-is)

  pub part-long : c.at + length (take (length file - c.at) (drop c.at file)) ≡ length file
  part-long = rw (part-drop file c.at, length-drop c.at file) (omega (arith, w.turn.inside))

  pub row-whole : WholeLayout c.layout (take (65 + c.header.mark - 65) (drop 65 file)) (take (length file - c.at) (drop c.at file))
  row-whole = given-whole file w.begun _ header.mark-is c.at c.layout w.turn.layout_is w.turn.whole

  pub row-at : row_at (take (65 + c.header.mark - 65) (drop 65 file)) c.at (take (length file - c.at) (drop c.at file)) ≡ row_no (rows_of file) c.row
  row-at =
      rw (mark-part file w.begun _ header.mark-is, part-drop file c.at, w.behind.place_is)
      (sym (row_is file w.begun c.row w.turn.row))

-- ---- the rows one by one

module _ {file : List ℕ} {c : Cursor} {index : List ℕ} {n : ℕ} (w : At file c index × (c.row ≡ n)) where
  pub next-indexed : Indexed file (n + 1) index
  next-indexed = indexed-more w.0.indexed (omega (arith, w.1))

  pub next-none : c.go ≡ false → {r : Row} → r ≡ no_row → record { go = false; row = r } ≡ next_of file n
  unfolding next_of
  next-none g e = rw (e, le-ltb n (length (rows_of file)) (omega (arith, w.1, (stops w.0 g).count)))

  pub next-some : c.go ≡ true → {r : Row} → r ≡ row_no (rows_of file) c.row → record { go = true; row = r } ≡ next_of file n
  unfolding next_of
  next-some g e = rw (lt-ltb n (length (rows_of file)) (omega (arith, w.1, (there w.0 g).turn.row)), e, w.1)

-- a cursor at a row that is known to be there
pub record Known (file : List ℕ) (n : ℕ) (c : Cursor) : Type 0 where
  pub is : c ≡ cursor_at file c.row
  pub goes : c.go ≡ true
  pub row_is : c.row ≡ n

pub known : {file : List ℕ} {h : Header} {n at : ℕ} → Behind file h n at → n < length (rows_of file) → {c : Cursor} → c ≡ cursor_at file n → Known file n c
known {file} {h} {n} b less {c} e =
    let all = e ∙ row-cursor file n (header_is h file b.header_is b.whole).whole less in
    let row : c.row ≡ n = ap (λ (x : Cursor). x.row) all in
    record { is = e ∙ ap (cursor_at file) (sym row); goes = ap (λ (x : Cursor). x.go) all; row_is = row }

-- the row behind n rows, where there is one
module _ (file : List ℕ) (n : ℕ) {x : Next} (e : x ≡ next_of file n) where
  pub next-goes : x.go ≡ true → (n < length (rows_of file)) × (x.row ≡ row_no (rows_of file) n)
  unfolding next_of
  next-goes g =
      test (ltb n (length (rows_of file)))
      (λ q. (ltb-true _ _ q, rw (e, q)))
      (λ q. untrue (sym (rw (e, q)) ∙ g))

  pub next-stops : x.go ≡ false → length (rows_of file) ≤ n
  unfolding next_of
  next-stops g =
      test (ltb n (length (rows_of file)))
      (λ q. untrue (sym g ∙ rw (e, q)))
      (λ q. ltb-false _ _ q)

  pub next-behind : {h : Header} {at : ℕ} → Behind file h n at → x.go ≡ true → Behind file h (n + 1) x.row.end
  next-behind b g = let w = next-goes g in rw w.1 (onward-row b w.0)
