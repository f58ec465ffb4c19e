-- The calls that read: read, parent, contents, gather. "Parent, append, contents and gather judge the file's bytes by
-- a reading with rows enough, not by a lent table." "Parent, contents and gather test 11 and then by rising number."
-- Assumes nothing.
use Rattle.std.specs.Prelude.{ℕ, suc, Bool, false, cond, not, ◌||◌, List, [], ◌∷◌, ◌++◌, leb, ltb, length, drop}
use Rattle.metafile.specs.declared.Row.{Row}
use Rattle.metafile.specs.declared.ReadAnswer.{ReadAnswer}
use Rattle.metafile.specs.Bytes.{part, choose, same, member}
use Rattle.metafile.specs.Fields.{padded, same_serial}
use Rattle.metafile.specs.Multi.{declared_ids, multi_joined}
use Rattle.metafile.specs.Chunk.{dependency_serial_of, dependency_sub_format_of}
use Rattle.metafile.specs.Reading.{Reading, read_file, rows_of}
use Rattle.metafile.specs.Answers.{Answer, result, refused, flag, Test, refuse, first_refusal, over_limit, Outcome, placed, unless_refused}
use Rattle.metafile.specs.Append.{row_no, sub_format_of}

-- ---- read

pub record ReadOutcome : Type 0 where
  pub answer : ReadAnswer
  pub table : List Row

unfoldable pub read_answer : Reading → ReadAnswer
read_answer r = record { count = length r.rows; stop = r.stop; good = r.good; number = r.number }

-- "Read given 11 answers count 0, stop 0, header sum not good."
unfoldable pub nothing_read : ReadAnswer
nothing_read = record { count = 0; stop = 0; good = false; number = 11 }

-- "Rows are a lent list of records; those past the count are not written."
unfoldable pub filled : Reading → List Row → List Row
filled r table = r.rows ++ drop (length r.rows) table

unfoldable pub read : List ℕ → List Row → ReadOutcome
read file table =
    cond (over_limit (length file ∷ []))
    (record { answer = nothing_read; table = table })
    (record { answer = read_answer (read_file (length table) file); table = filled (read_file (length table) file) table })

-- ---- parent: "Parent of row k, dependency j, both from 0"

-- the row with this serial; the number of rows where there is none
unfoldable pub row_with : List ℕ → List Row → ℕ
row_with x [] = 0
row_with x (r ∷ rs) = cond (same_serial x r.serial) 0 (suc (row_with x rs))

unfoldable pub chunk_of : List ℕ → ℕ → List ℕ
chunk_of file k = drop (row_no (rows_of file) k).place file

unfoldable pub parent_row : List ℕ → ℕ → ℕ → ℕ
parent_row file k j = row_with (dependency_serial_of j (chunk_of file k)) (rows_of file)

unfoldable pub agree : List ℕ → ℕ → ℕ → Bool
agree file k j =
    same (dependency_sub_format_of j (chunk_of file k)) (sub_format_of file (row_no (rows_of file) (parent_row file k j)))

unfoldable pub parent_tests : List ℕ → ℕ → ℕ → List Test
parent_tests file k j =
    refuse 11 (over_limit (length file ∷ []))
    ∷ refuse 13 (leb (length (rows_of file)) k)
    ∷ refuse 14 (leb (row_no (rows_of file) k).dependencies j)
    ∷ []

unfoldable pub parent : List ℕ → ℕ → ℕ → Answer
parent file k j =
    choose (first_refusal (parent_tests file k j))
    (cond (ltb (parent_row file k j) (length (rows_of file))) (result (parent_row file k j ∷ flag (agree file k j) ∷ [])) (result []))
    (λ n. refused n)

-- ---- contents: "hands back the part of the file that the row names, uncopied; refused, an empty part and the number"

pub record ContentsOutcome : Type 0 where
  pub contents : List ℕ
  pub number : ℕ

unfoldable pub row_contents : List ℕ → Row → List ℕ
row_contents file r = part r.contents r.bytes file

unfoldable pub contents_tests : List ℕ → ℕ → List Test
contents_tests file k = refuse 11 (over_limit (length file ∷ [])) ∷ refuse 13 (leb (length (rows_of file)) k) ∷ []

unfoldable pub contents : List ℕ → ℕ → ContentsOutcome
contents file k =
    choose (first_refusal (contents_tests file k))
    (record { contents = row_contents file (row_no (rows_of file) k); number = 0 })
    (λ n. record { contents = []; number = n })

-- ---- gather: "joins, in order, one short ID's mini-chunk data into a lent buffer and answers the length; bytes past
-- it keep their old state"

-- the MultiChunk's contents, from its first line to the file's end
unfoldable pub multi_of : List ℕ → ℕ → List ℕ
multi_of file k = drop (row_no (rows_of file) k).contents file

unfoldable pub gathered : List ℕ → ℕ → List ℕ → List ℕ
gathered file k id = multi_joined (padded 10 id) (multi_of file k)

-- "14 .. gather: not a MultiChunk or ID undeclared"
unfoldable pub gather_tests : List ℕ → ℕ → List ℕ → List ℕ → List Test
gather_tests file k id buffer =
    refuse 11 (over_limit (length file ∷ length id ∷ length buffer ∷ []))
    ∷ refuse 13 (leb (length (rows_of file)) k)
    ∷ refuse 14 (not (row_no (rows_of file) k).multichunk || not (member (padded 10 id) (declared_ids (multi_of file k))))
    ∷ refuse 18 (ltb (length buffer) (length (gathered file k id)))
    ∷ []

unfoldable pub gather : List ℕ → ℕ → List ℕ → List ℕ → Outcome
gather file k id buffer =
    unless_refused (gather_tests file k id buffer) buffer
    (record { answer = result (length (gathered file k id) ∷ []); buffer = placed 0 (gathered file k id) buffer })
