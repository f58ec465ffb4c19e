-- Append's tests in groups, each over what it looks at. Assumes nothing.
use Rattle.std.specs.Prelude.{ℕ, Bool, not, ◌&&◌, ◌||◌, List, [], ◌∷◌, ◌++◌, ltb, length}
use Rattle.metafile.specs.declared.Description.{Description}
use Rattle.metafile.specs.Bytes.{all, non_zero, same, find}
use Rattle.metafile.specs.Lines.{BIN}
use Rattle.metafile.specs.Header.{is_llc, mark_of}
use Rattle.metafile.specs.Chunk.{multi_name}
use Rattle.metafile.specs.Answers.{Test, refuse}
use Rattle.metafile.specs.Append.{sub_format_given, append_formed}
use Rattle.writer.specs.Parents.{parents_refused}

-- 6 and 17: the description
unfoldable pub description_tests : Description → List Test
description_tests d = refuse 6 (not (append_formed d)) ∷ refuse 17 (same (sub_format_given d) multi_name) ∷ []

-- 13, 9 and 15 for a file of n rows: rows named as parents, the serial number in a row or not, the mark
unfoldable pub file_tests : List ℕ → ℕ → Bool → List ℕ → List Test
file_tests file n is_known parents =
    refuse 13 (parents_refused n parents) ∷ refuse 9 is_known ∷ refuse 15 (not (all non_zero (mark_of file))) ∷ []

-- 16
unfoldable pub open_refused : List ℕ → List ℕ → List ℕ → Bool → Bool
open_refused file generic contents is_open =
    is_open && (is_llc file || same generic BIN || ltb (find (mark_of file) (contents ++ mark_of file)) (length contents))
