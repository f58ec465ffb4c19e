-- The file header: the first 65 bytes, mark, integrity data, mark. Assumes nothing.
use Rattle.std.specs.Prelude.{ℕ, Bool, not, ◌||◌, List, [], ◌∷◌, drop}
use Rattle.metafile.specs.Bytes.{part, ◌⊳◌, require, is_zero, same, starts}
use Rattle.metafile.specs.Fields.{count_value}
use Rattle.metafile.specs.Lines.{LLC, Field, lines_of, run, field_fault, format_id, separator_strategy}
use Rattle.metafile.specs.Closing.{closing, closing_end, sum_good}
use Rattle.metafile.specs.Multi.{mini_label}

-- ""Format_ID=Ancillary Data Standard 1.00" LF, "Separator_Strategy=", LLC or NUL, I3 mark length, LF: 65 bytes."
unfoldable pub title : List Field
title = lines_of (format_id ∷ separator_strategy ∷ [])

unfoldable pub is_llc : List ℕ → Bool
is_llc file = same (part 58 3 file) LLC

unfoldable pub mark_length : List ℕ → ℕ
mark_length file = count_value (part 61 3 file)

-- "The mark is that many bytes of any value."
unfoldable pub mark_of : List ℕ → List ℕ
mark_of file = part 65 (mark_length file) file

-- "1 first 65 bytes don't match", "2 NUL000 (tape)", "NUL with 0 in any form is 2"
unfoldable pub title_fault : List ℕ → ℕ
title_fault v = require (is_zero (run title v)) 1 ⊳ require (is_llc v || not (is_zero (mark_length v))) 2

-- "3 mark begins "MiniChunk=""
unfoldable pub mark_fault : List ℕ → ℕ
mark_fault v = require (not (starts mini_label v)) 3

-- "The first 65 bytes are one field"; the mark is the next, and ends the header again behind the integrity data
unfoldable pub header_fault : List ℕ → ℕ
header_fault file =
    field_fault 65 title_fault file
    ⊳ field_fault (mark_length file) mark_fault (drop 65 file)
    ⊳ run (closing (mark_of file)) (drop 65 file)

unfoldable pub header_end : List ℕ → ℕ
header_end file = closing_end 65 (mark_of file)

-- "integrity data summed over these 65 bytes in place of a chunk"
unfoldable pub header_good : List ℕ → Bool
header_good file = sum_good 65 (mark_of file) file
