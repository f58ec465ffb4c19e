-- The contents of ADS\SYS\Relations, the Master Relation Chunk: "a heading line, then lines of five fields divided by tabs",
-- written for a file and checked against it. Assumes nothing.
use Rattle.std.specs.Prelude.{ℕ, zero, suc, ◌+◌, Bool, cond, not, ◌&&◌, List, [], ◌∷◌, ◌++◌, leb, ltb, eqb, length, get_or}
use Rattle.metafile.specs.Bytes.{bytes, part, all, is_zero, same}
use Rattle.metafile.specs.Fields.{is_text, padded, same_serial}
use Rattle.metafile.specs.Days.{day_read, serial_read, day_fault, day_value_of}
use Rattle.metafile.specs.Lines.{first_of}
use Rattle.metafile.specs.Header.{mark_of}
use Rattle.metafile.specs.Chunk.{sub_format, dependency_serial_of, dependency_sub_format_of, closing_place}
use Rattle.metafile.specs.Reading.{rows_of}
use Rattle.metafile.specs.Answers.{Answer, result, refused, Test, refuse, over_limit, Outcome, placed, unless_refused}
use Rattle.metafile.specs.Append.{row_no}
use Rattle.metafile.specs.Calls.{chunk_of, parent_row, row_contents}
use Rattle.metafile.specs.Below.{any_below, join_below}

-- ---- the sub-format, lines and fields

unfoldable pub relations_name : List ℕ
relations_name = padded 256 (bytes "ADS\\SYS\\Relations")

-- the chunk s is a relation chunk
unfoldable pub is_relations : List ℕ → Bool
is_relations s = same (sub_format s) relations_name

-- fields with the byte d between them
unfoldable pub divided : ℕ → List (List ℕ) → List ℕ
divided d [] = []
divided d (v ∷ []) = v
divided d (v ∷ w ∷ ws) = v ++ d ∷ divided d (w ∷ ws)

unfoldable pub onto_first : ℕ → List (List ℕ) → List (List ℕ)
onto_first x [] = (x ∷ []) ∷ []
onto_first x (v ∷ vs) = (x ∷ v) ∷ vs

-- bytes divided at each byte d
unfoldable pub split_on : ℕ → List ℕ → List (List ℕ)
split_on d [] = [] ∷ []
split_on d (x ∷ xs) = cond (eqb x d) ([] ∷ split_on d xs) (onto_first x (split_on d xs))

-- "each line with its LF"
unfoldable pub lined : List (List ℕ) → List ℕ
lined [] = []
lined (v ∷ vs) = v ++ 10 ∷ lined vs

-- "Chapter 7 of source document 002 gives it": the first line
unfoldable pub heading : List ℕ
heading =
    divided 9
    (bytes "ADS Metafile Master Relation Chunk Revision 1.00"
    ∷ bytes "Child serial number"
    ∷ bytes "Child sub-format ID"
    ∷ bytes "Parent serial number"
    ∷ bytes "Parent sub-format ID"
    ∷ [])

-- the name of a relation line, its first field
unfoldable pub relation_name : List ℕ
relation_name = bytes "ADS relation"

-- ---- the writer

-- "none that names that sub-format or finds such a row": dependency j of row k
unfoldable pub is_listed : List ℕ → ℕ → ℕ → Bool
is_listed file k j =
    not (same (dependency_sub_format_of j (chunk_of file k)) relations_name)
    && not (ltb (parent_row file k j) (length (rows_of file)) && is_relations (chunk_of file (parent_row file k j)))

-- child's serial number and sub-format, parent's serial number and sub-format
unfoldable pub relation_line : List ℕ → ℕ → ℕ → List ℕ
relation_line file k j =
    divided 9
    (relation_name
    ∷ (row_no (rows_of file) k).serial
    ∷ sub_format (chunk_of file k)
    ∷ dependency_serial_of j (chunk_of file k)
    ∷ dependency_sub_format_of j (chunk_of file k)
    ∷ [])

unfoldable pub line_if_listed : List ℕ → ℕ → ℕ → List (List ℕ)
line_if_listed file k j = cond (is_listed file k j) (relation_line file k j ∷ []) []

-- "every dependency of every row, in row order, but none of a relations row"
unfoldable pub lines_of_row : List ℕ → ℕ → List (List ℕ)
lines_of_row file k =
    cond (is_relations (chunk_of file k)) [] (join_below (row_no (rows_of file) k).dependencies (line_if_listed file k))

unfoldable pub relation_lines : List ℕ → List (List ℕ)
relation_lines file = join_below (length (rows_of file)) (lines_of_row file)

unfoldable pub relations_text : List ℕ → List ℕ
relations_text file = lined (heading ∷ relation_lines file)

-- "11 is tested first and 18 .. last"
unfoldable pub relations_write_tests : List ℕ → List ℕ → List Test
relations_write_tests file buffer =
    refuse 11 (over_limit (length file ∷ length buffer ∷ []))
    ∷ refuse 18 (ltb (length buffer) (length (relations_text file)))
    ∷ []

-- "a call that writes answers the length reached and keeps the bytes past it"
unfoldable pub relations_write : List ℕ → List ℕ → Outcome
relations_write file buffer =
    unless_refused (relations_write_tests file buffer) buffer
    (record { answer = result (length (relations_text file) ∷ []); buffer = placed 0 (relations_text file) buffer })

-- ---- the reader

-- field i of a line, from 0
abbrev pub field_no : List (List ℕ) → ℕ → List ℕ
field_no fs i = get_or fs i []

unfoldable pub is_serial_field : List ℕ → Bool
is_serial_field v = eqb (length v) 38 && is_zero (day_fault (serial_read v))

unfoldable pub is_name_field : List ℕ → Bool
is_name_field v = eqb (length v) 256 && all is_text v

-- "five well-formed fields"; the first has the line's name
unfoldable pub well_formed : List (List ℕ) → Bool
well_formed fs =
    eqb (length fs) 5
    && is_serial_field (field_no fs 1)
    && is_name_field (field_no fs 2)
    && is_serial_field (field_no fs 3)
    && is_name_field (field_no fs 4)

-- dependency j of the chunk s is the parent of these fields
unfoldable pub is_parent_of : List (List ℕ) → List ℕ → ℕ → Bool
is_parent_of fs s j =
    same_serial (dependency_serial_of j s) (field_no fs 3) && same (dependency_sub_format_of j s) (field_no fs 4)

-- the chunk s, of n dependencies, has the child's sub-format and the parent among its dependencies
unfoldable pub chunk_declares : List (List ℕ) → List ℕ → ℕ → Bool
chunk_declares fs s n = same (sub_format s) (field_no fs 2) && any_below n (is_parent_of fs s)

-- row k "declares exactly that dependency"
unfoldable pub row_declares : List ℕ → List (List ℕ) → ℕ → Bool
row_declares file fs k =
    same_serial (row_no (rows_of file) k).serial (field_no fs 1)
    && chunk_declares fs (chunk_of file k) (row_no (rows_of file) k).dependencies

-- "whether some row's header declares exactly that dependency"
unfoldable pub is_declared : List ℕ → List (List ℕ) → Bool
is_declared file fs = any_below (length (rows_of file)) (row_declares file fs)

abbrev pub declared : ℕ
declared = 1

abbrev pub undeclared : ℕ
undeclared = 2

abbrev pub malformed : ℕ
malformed = 3

-- "Lines without a defined name are comments": 0, no verdict. "A line that has the name and not five well-formed fields is
-- reported as malformed." Else the test of its fields says whether it is declared.
unfoldable pub verdict_by : (List (List ℕ) → Bool) → List ℕ → ℕ
verdict_by test line =
    cond (same (first_of (split_on 9 line)) relation_name)
    (cond (well_formed (split_on 9 line)) (cond (test (split_on 9 line)) declared undeclared) malformed)
    0

-- the verdicts of these lines, in their order
unfoldable pub verdicts_by : (List (List ℕ) → Bool) → List (List ℕ) → List ℕ
verdicts_by test [] = []
verdicts_by test (l ∷ ls) =
    cond (is_zero (verdict_by test l)) (verdicts_by test ls) (verdict_by test l ∷ verdicts_by test ls)

unfoldable pub verdicts : List ℕ → List (List ℕ) → List ℕ
verdicts file ls = verdicts_by (is_declared file) ls

-- the lines of row k's contents; "A last line may lack its LF"
unfoldable pub contents_lines : List ℕ → ℕ → List (List ℕ)
contents_lines file k = split_on 10 (row_contents file (row_no (rows_of file) k))

-- "A row of another sub-format gets 19, a wrong heading line 20, after 13 in the order"; the list of verdicts is no byte
-- buffer, so 11 is of the file alone
unfoldable pub relations_check_tests : List ℕ → ℕ → List ℕ → List Test
relations_check_tests file k list =
    refuse 11 (over_limit (length file ∷ []))
    ∷ refuse 13 (leb (length (rows_of file)) k)
    ∷ refuse 19 (not (is_relations (chunk_of file k)))
    ∷ refuse 20 (not (same (first_of (contents_lines file k)) heading))
    ∷ refuse 18 (ltb (length list) (length (verdicts file (contents_lines file k))))
    ∷ []

-- the list has the verdicts in front, and behind them what it had
unfoldable pub relations_check : List ℕ → ℕ → List ℕ → Outcome
relations_check file k list =
    unless_refused (relations_check_tests file k list) list
    (record {
      answer = result (length (verdicts file (contents_lines file k)) ∷ []);
      buffer = placed 0 (verdicts file (contents_lines file k)) list;
    })

-- ---- "which of several relation chunks holds"

-- the date in the fourth line of integrity data of the chunk s, m the mark
unfoldable pub writing_date_of : List ℕ → List ℕ → List ℕ
writing_date_of m s = part (closing_place m s + length m + 163) 8 s

-- the day on which row k's chunk was written
unfoldable pub writing_day : List ℕ → ℕ → ℕ
writing_day file k = day_value_of (day_read (writing_date_of (mark_of file) (chunk_of file k)))

-- a row, and the day on which its chunk was written
pub record Latest : Type 0 where
  pub row : ℕ
  pub day : ℕ

-- "the latest Chunk_Writing_Date, and of equal dates the later row": among the first n rows; the number of rows and day 0
-- where none of them is a relations row
unfoldable pub latest_below : List ℕ → ℕ → Latest
latest_below file zero = record { row = length (rows_of file); day = 0 }
latest_below file (suc n) =
    cond (is_relations (chunk_of file n) && leb (latest_below file n).day (writing_day file n))
    (record { row = n; day = writing_day file n })
    (latest_below file n)

-- the row that holds; the number of rows where there is none
unfoldable pub relations_row : List ℕ → ℕ
relations_row file = (latest_below file (length (rows_of file))).row

-- the row beside a result
unfoldable pub with_row : ℕ → Answer → Answer
with_row k (result values) = result (values ++ k ∷ [])
with_row k (refused n) = refused n

-- "The relations check of U1 uses this choice when no row is named; with no such row it gives 13." The row is answered too
unfoldable pub relations_check_latest : List ℕ → List ℕ → Outcome
relations_check_latest file list =
    record {
      answer = with_row (relations_row file) (relations_check file (relations_row file) list).answer;
      buffer = (relations_check file (relations_row file) list).buffer;
    }
