-- The text of the listing by its pieces ("The desk's slip").
--     numbers-are row_is end_line_lem head-is   the pieces of a line
--     rows_none rows_more                   the lines of the rows, one row on
--     listed-is                             the whole text of a table
--     listing-short listing-long            the text of a file, of one over 65,536 bytes
-- Assumes nothing.
use Prim.Native.Nat.{ℕ, suc, ◌+◌, ◌≤◌, ◌<◌}
use mathlib.Core.Bool.{Bool}
use mathlib.Core.Path.{◌≡◌, refl, sym, ap, ◌∙◌}
use mathlib.Core.List.{List, [], ◌∷◌, ◌++◌, append_assoc, append-nil}
use native.Mathlib.Numerals.{add-one}
use native.Mathlib.Omega.{arith}
use lib.Dec.{eqb}
use lib.ListN.{length, take, get_or, replicate}
use lib.Seq.{take-suc, length-take-le}
use borrow.Author.Tests.{lt-ltb, le-ltb}
use Rattle.metafile.specs.declared.Row.{Row}
use Rattle.metafile.specs.declared.ReadAnswer.{ReadAnswer}
use Rattle.metafile.specs.Listing.{decimal, line_of, good_or_bad, row_line, row_lines, end_line, header_word, listed, listing}
use Rattle.metafile.specs.Append.{no_row}
use Rattle.metafile.specs.Calls.{read}
use Rattle.laws.proofs.First.{is_zero-eqb}
use Rattle.read.specs.State.{read_outcome}
use Rattle.read.specs.Table.{table_rows, table_reading}
use Rattle.read.proofs.Enough.{table_is}
use Rattle.listing_text.specs.Text.{numbers, head_lines}

pub numbers-are : (a b c d : ℕ)
    → (((decimal a ++ 32 ∷ []) ++ (decimal b ++ 32 ∷ [])) ++ (decimal c ++ 32 ∷ [])) ++ (decimal d ++ 32 ∷ []) ≡ numbers a b c d
unfolding numbers
numbers-are a b c d = refl

pub row_is : (k : ℕ) (r : Row)
    → (numbers k r.place r.header r.bytes ++ (good_or_bad r.good ++ 32 ∷ [])) ++ (r.serial ++ 10 ∷ []) ≡ row_line k r
unfolding row_line line_of numbers
row_is k r = simp append_assoc

pub end_line_lem : (stop number : ℕ) → ((101 ∷ 110 ∷ 100 ∷ []) ++ 32 ∷ [] ++ (decimal stop ++ 32 ∷ [])) ++ (decimal number ++ 10 ∷ []) ≡ end_line stop number
unfolding end_line line_of
end_line_lem stop number = simp append_assoc

pub head-is : (none good : Bool) (count : ℕ)
    → ((((104 ∷ 101 ∷ 97 ∷ 100 ∷ 101 ∷ 114 ∷ []) ++ 32 ∷ []) ++ (header_word none good ++ 10 ∷ [])) ++ ((99 ∷ 104 ∷ 117 ∷ 110 ∷ 107 ∷ 115 ∷ []) ++ 32 ∷ []))
    ++ (decimal count ++ 10 ∷ []) ≡ head_lines none good count
unfolding head_lines line_of
head-is none good count = simp append_assoc

pub rows_none : (rows : List Row) → row_lines 0 (take 0 rows) ≡ []
unfolding row_lines
rows_none rows = refl

row_lines-append : (k : ℕ) (a b : List Row) → row_lines k (a ++ b) ≡ row_lines k a ++ row_lines (k + length a) b
unfolding row_lines
row_lines-append k [] b = ap (λ (n : ℕ). row_lines n b) (omega arith)
row_lines-append k (r ∷ a) b =
    let same : suc k + length a ≡ k + suc (length a) = omega arith in
    rw (row_lines-append (suc k) a b, append_assoc, same)

pub rows_more : (rows : List Row) (i : ℕ) (d : Row) → i < length rows → row_lines 0 (take i rows) ++ row_line i (get_or rows i d) ≡ row_lines 0 (take (i + 1) rows)
unfolding row_lines
rows_more rows i d h =
    let z : 0 + i ≡ i = omega arith in
    let n : length (take i rows) ≡ i = length-take-le i rows (omega arith) in
    sym (rw (add-one, take-suc rows i d h) (row_lines-append 0 (take i rows) (get_or rows i d ∷ []) ∙ rw (n, z, append-nil)))

pub listed-is : (none : Bool) (rows : List Row) (a : ReadAnswer) → a.count ≤ length rows
    → (head_lines none a.good a.count ++ row_lines 0 (take a.count rows)) ++ end_line a.stop a.number ≡ listed none (table_reading rows a)
unfolding listed head_lines table_reading
listed-is none rows a h = rw (length-take-le a.count rows h)

-- "A program reads a file of up to 65,536 bytes .. with rows enough": the text of the table, and that of a longer file

pub listing-short : (file : List ℕ) (rows : List Row) (a : ReadAnswer) → length file ≤ 65536 → read_outcome a rows ≡ read file (replicate table_rows no_row)
    → listed (eqb (length file) 0) (table_reading rows a) ≡ listing file
unfolding listing
listing-short file rows a under is = rw (is_zero-eqb (length file), table_is file rows a under is, le-ltb 65536 (length file) under)

pub listing-long : (file : List ℕ) → 65536 < length file → end_line 0 11 ≡ listing file
unfolding listing
listing-long file h = rw (lt-ltb 65536 (length file) h)
