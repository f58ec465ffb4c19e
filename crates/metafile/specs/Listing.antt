-- The desk's slip: the text that the listing program prints for the bytes of its standard input. Assumes nothing.
use Rattle.std.specs.Prelude.{ℕ, suc, Bool, cond, List, [], ◌∷◌, ◌++◌, ltb, eqb, length}
use Rattle.metafile.specs.declared.Row.{Row}
use Rattle.metafile.specs.Bytes.{bytes, is_zero}
use Rattle.metafile.specs.Fields.{digits_of}
use Rattle.metafile.specs.Reading.{Reading, reading}

-- "its numbers, but for the serial, have no leading zeros"
unfoldable pub unpadded : List ℕ → List ℕ
unpadded [] = []
unpadded (x ∷ []) = x ∷ []
unpadded (x ∷ y ∷ ys) = cond (eqb x 48) (unpadded (y ∷ ys)) (x ∷ y ∷ ys)

unfoldable pub decimal : ℕ → List ℕ
decimal n = unpadded (digits_of 20 n)

-- words divided by a space; "Each line ends in LF"
unfoldable pub line_of : List (List ℕ) → List ℕ
line_of [] = bytes "\n"
line_of (w ∷ []) = w ++ bytes "\n"
line_of (w ∷ v ∷ ws) = w ++ bytes " " ++ line_of (v ∷ ws)

unfoldable pub good_or_bad : Bool → List ℕ
good_or_bad b = cond b (bytes "good") (bytes "bad")

-- "for each its row from 0, place, header bytes, contents bytes, sum (good or bad), serial"
unfoldable pub row_line : ℕ → Row → List ℕ
row_line k r =
    line_of (decimal k ∷ decimal r.place ∷ decimal r.header ∷ decimal r.bytes ∷ good_or_bad r.good ∷ r.serial ∷ [])

unfoldable pub row_lines : ℕ → List Row → List ℕ
row_lines k [] = []
row_lines k (r ∷ rs) = row_line k r ++ row_lines (suc k) rs

-- "then stop and number"
unfoldable pub end_line : ℕ → ℕ → List ℕ
end_line stop number = line_of (bytes "end" ∷ decimal stop ∷ decimal number ∷ [])

-- "The header's sum (good or bad)"; of a file of no bytes "header none"
unfoldable pub header_word : Bool → Bool → List ℕ
header_word none good = cond none (bytes "none") (good_or_bad good)

-- the header's word; "the count of rows"; the lines of the rows and of the end
unfoldable pub listed : Bool → Reading → List ℕ
listed none r =
    line_of (bytes "header" ∷ header_word none r.good ∷ [])
    ++ line_of (bytes "chunks" ∷ decimal (length r.rows) ∷ [])
    ++ row_lines 0 r.rows
    ++ end_line r.stop r.number

-- "A program reads a file of up to 65,536 bytes .. with rows enough"; "A longer input prints only "end 0 11"."
unfoldable pub listing : List ℕ → List ℕ
listing input = cond (ltb 65536 (length input)) (end_line 0 11) (listed (is_zero (length input)) (reading input))
