-- A reading: the file header, then chunks, a row for each, as long as there are rows. Assumes nothing.
use Rattle.std.specs.Prelude.{ℕ, zero, suc, ◌+◌, Bool, false, cond, not, ◌&&◌, List, [], ◌∷◌, ◌++◌, ltb, eqb, length, drop}
use Rattle.metafile.specs.declared.Row.{Row}
use Rattle.metafile.specs.Bytes.{◌⊳◌, require, choose, is_zero, is_empty}
use Rattle.metafile.specs.Fields.{known}
use Rattle.metafile.specs.Header.{is_llc, mark_of, header_fault, header_end, header_good}
use Rattle.metafile.specs.Chunk.{chunk_fault, chunk_end, serial_of, row_at}

-- the rows from some place on, where they stop, and the number
pub record Rows : Type 0 where
  pub rows : List Row
  pub stop : ℕ
  pub number : ℕ

-- no further row: the reading stops at the place p with this number
unfoldable pub halt : ℕ → ℕ → Rows
halt p n = record { rows = []; stop = p; number = n }

-- rows before others
unfoldable pub onto : List Row → Rows → Rows
onto rs r = record { rows = rs ++ r.rows; stop = r.stop; number = r.number }

-- what stands here: a whole chunk with a new serial (0), or the number. "9 whole chunk, serial already in a row"
unfoldable pub next_fault : Bool → List ℕ → List (List ℕ) → List ℕ → ℕ
next_fault llc m seen s = chunk_fault llc m s ⊳ require (not (known (serial_of m s) seen)) 9

-- n rows are lent; `seen` are the serials in rows so far; s is the file from the place p on. "10 another whole chunk,
-- its serial new, and no row left"
unfoldable pub read_rows : ℕ → Bool → List ℕ → List (List ℕ) → ℕ → List ℕ → Rows
read_rows zero llc m seen p s = cond (is_empty s) (halt p 0) (halt p (next_fault llc m seen s ⊳ 10))
read_rows (suc n) llc m seen p s =
    let rest : Rows = read_rows n llc m (serial_of m s ∷ seen) (p + chunk_end m s) (drop (chunk_end m s) s) in
    cond (is_empty s) (halt p 0) (choose (next_fault llc m seen s) (onto (row_at m p s ∷ []) rest) (halt p))

-- "The answer is count, stop (end of the last chunk in a row, else of the header, 0 if that isn't whole), header sum
-- good (never where the header isn't whole), number."
pub record Reading : Type 0 where
  pub rows : List Row
  pub stop : ℕ
  pub good : Bool
  pub number : ℕ

unfoldable pub with_header : Bool → Rows → Reading
with_header good r = record { rows = r.rows; stop = r.stop; good = good; number = r.number }

-- "A file of no bytes now reads with number 0": the number where the header isn't whole, of a file of so many bytes whose
-- header has the fault k
unfoldable pub unbegun : ℕ → ℕ → ℕ
unbegun long k = cond (is_zero long) 0 k

-- a reading of the file into n rows
unfoldable pub read_file : ℕ → List ℕ → Reading
read_file n file =
    choose (header_fault file)
    (with_header (header_good file) (read_rows n (is_llc file) (mark_of file) [] (header_end file) (drop (header_end file) file)))
    (λ k. with_header false (halt 0 (unbegun (length file) k)))

-- "a reading with rows enough": as many as the file has bytes are enough
unfoldable pub reading : List ℕ → Reading
reading file = read_file (length file) file

unfoldable pub rows_of : List ℕ → List Row
rows_of file = (reading file).rows

unfoldable pub serials_of : List Row → List (List ℕ)
serials_of [] = []
serials_of (r ∷ rs) = r.serial ∷ serials_of rs

-- "Clean means number 0 and stop at the file's end": of a file of so many bytes, by number and stop. "Only begin starts a
-- file, so this reading doesn't count as clean": a file of no bytes isn't
abbrev pub clean_at : ℕ → ℕ → ℕ → Bool
clean_at long number stop = ltb 0 long && eqb number 0 && eqb stop long

unfoldable pub is_clean : List ℕ → Reading → Bool
is_clean file r = clean_at (length file) r.number r.stop
