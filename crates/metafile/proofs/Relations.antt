-- The contents of ADS\SYS\Relations, by computing: the text written for a file with dependencies of every sort, the verdicts
-- on lines written by hand, and the refusals. An edit of the definitions fails here. Assumes nothing.
--     text                          which dependencies are listed, and in which order
--     write-fits write-short        the text in a lent buffer, and in one that is a byte short
--     write-unbegun check-unbegun   a file whose header is not whole
--     check-verdicts check-short    the verdicts in a lent list, and in one that is an entry short
--     check-no-row check-plain      13 and 19
--     Headings                      20, and what is taken for a heading line
--     line-forms                    what is taken for a relation line, and for one with five well-formed fields
use Prim.Native.Nat.{ℕ, ◌+◌}
use mathlib.Core.Bool.{false}
use mathlib.Core.Path.{◌≡◌, refl}
use mathlib.Core.List.{List, [], ◌∷◌, ◌++◌}
use lib.ListN.{length, take, drop, replicate}
use Rattle.metafile.specs.Bytes.{bytes}
use Rattle.metafile.specs.Fields.{digits_of, padded}
use Rattle.metafile.specs.Lines.{lf, lines_of, write, content_length}
use Rattle.metafile.specs.Chunk.{head, dependency_fields}
use Rattle.metafile.specs.Description.{with_sub_format}
use Rattle.metafile.specs.Answers.{Answer, result, refused, outcome}
use Rattle.metafile.specs.Append.{head_values}
use Rattle.metafile.specs.Relations.{relations_text, relations_write, verdicts, relations_check}
use Rattle.metafile.proofs.Samples.{paper_serial, described, begun_abab}
use Rattle.metafile.proofs.ThreeEndings.{samples}
use Rattle.metafile.proofs.SpacesInFront.{spaced_serial, closed_by}

-- ---- serial numbers and sub-formats

unfoldable pub relations_serial : List ℕ
relations_serial = bytes "#20240229123456789SURVEYDESK0100043002"

unfoldable pub child_serial : List ℕ
child_serial = bytes "#20240229123456789SURVEYDESK0100044003"

-- of no chunk in the file
unfoldable pub missing_serial : List ℕ
missing_serial = bytes "#20240229123456789SURVEYDESK0100045004"

unfoldable pub test_id : List ℕ
test_id = padded 256 (bytes "ADS\\DATA\\TEST")

unfoldable pub other_id : List ℕ
other_id = padded 256 (bytes "ADS\\DATA\\OTHER")

unfoldable pub relations_id : List ℕ
relations_id = padded 256 (bytes "ADS\\SYS\\Relations")

-- ---- lines

unfoldable pub heading_line : List ℕ
heading_line = bytes "ADS Metafile Master Relation Chunk Revision 1.00\tChild serial number\tChild sub-format ID\tParent serial number\tParent sub-format ID\n"

-- serial number and sub-format of the child, then of the parent
unfoldable pub relation : List ℕ → List ℕ → List ℕ → List ℕ → List ℕ
relation child child_id parent parent_id =
    bytes "ADS relation\t" ++ child ++ bytes "\t" ++ child_id ++ bytes "\t" ++ parent ++ bytes "\t" ++ parent_id

unfoldable pub line : List ℕ → List ℕ → List ℕ → List ℕ → List ℕ
line child child_id parent parent_id = relation child child_id parent parent_id ++ bytes "\n"

-- declared, undeclared (another child's sub-format) and malformed; declared, undeclared (another parent's sub-format) and
-- malformed; with comments between
unfoldable pub by_hand : List ℕ
by_hand =
    heading_line
    ++ line child_serial test_id relations_serial other_id
    ++ bytes "\n"
    ++ line child_serial other_id paper_serial test_id
    ++ bytes "ADS relation\nADS relationship\n"
    ++ line relations_serial relations_id paper_serial test_id
    ++ heading_line
    ++ line child_serial test_id paper_serial other_id
    ++ relation child_serial test_id paper_serial (bytes "ADS\\DATA\\TEST")

-- ---- the file

-- header and contents of a chunk with n dependencies, the serial number and sub-format of each in `parents`
unfoldable pub unclosed : List ℕ → ℕ → List (List ℕ) → List ℕ → List ℕ
unclosed id n parents contents =
    write head
    (head_values
    (record {
      description = with_sub_format (described paper_serial) id;
      parents = replicate n 0;
      specific = [];
      contents = [];
      is_open = false;
    }))
    ++ write (lf ∷ dependency_fields n) parents
    ++ write (lines_of (content_length ∷ [])) (digits_of 12 (length contents + 1) ∷ [])
    ++ contents

-- a chunk; its sum is bad, and not asked
unfoldable pub chunk_with : List ℕ → List ℕ → ℕ → List (List ℕ) → List ℕ → List ℕ
chunk_with serial id n parents contents = closed_by serial (bytes "000") (unclosed id n parents contents)

-- the last row's dependencies: on row 0, its check with spaces; on row 0 under the relations rows' sub-format; on the
-- relations row under another; on no row
unfoldable pub file : List ℕ
file =
    begun_abab
    ++ chunk_with paper_serial test_id 1 (child_serial ∷ test_id ∷ []) []
    ++ chunk_with relations_serial relations_id 1 (spaced_serial ∷ test_id ∷ []) by_hand
    ++ chunk_with child_serial test_id 4
    (spaced_serial
    ∷ test_id
    ∷ paper_serial
    ∷ relations_id
    ∷ relations_serial
    ∷ other_id
    ∷ missing_serial
    ∷ other_id
    ∷ [])
    []

unfoldable pub expected : List ℕ
expected =
    heading_line
    ++ line paper_serial test_id child_serial test_id
    ++ line child_serial test_id spaced_serial test_id
    ++ line child_serial test_id missing_serial other_id

-- a relations row with these contents, and no other row
unfoldable pub alone : List ℕ → List ℕ
alone contents = begun_abab ++ chunk_with relations_serial relations_id 0 [] contents

-- `unfolding related` opens these values and every definition
unfoldable pub related : Unit {0}
unfolding samples spaced_serial closed_by relations_serial child_serial missing_serial test_id other_id relations_id heading_line relation line by_hand unclosed chunk_with file expected alone
related = tt

-- ---- the writer

pub text : relations_text file ≡ expected
unfolding related
text = refl

pub write-fits : relations_write file (replicate 1947 7) ≡ outcome (result (1946 ∷ [])) (expected ++ 7 ∷ [])
unfolding related
write-fits = refl

pub write-short : relations_write file (replicate 1945 7) ≡ outcome (refused 18) (replicate 1945 7)
unfolding related
write-short = refl

pub write-unbegun : relations_write (bytes "x") (replicate 131 7) ≡ outcome (result (131 ∷ [])) heading_line
unfolding related
write-unbegun = refl

-- ---- the reader

pub check-verdicts : relations_check file 1 (replicate 7 9) ≡ outcome (result (6 ∷ [])) (1 ∷ 2 ∷ 3 ∷ 1 ∷ 2 ∷ 3 ∷ 9 ∷ [])
unfolding related
check-verdicts = refl

pub check-short : relations_check file 1 (replicate 5 9) ≡ outcome (refused 18) (replicate 5 9)
unfolding related
check-short = refl

pub check-no-row : relations_check file 3 [] ≡ outcome (refused 13) []
unfolding related
check-no-row = refl

pub check-plain : relations_check file 0 [] ≡ outcome (refused 19) []
unfolding related
check-plain = refl

pub check-unbegun : relations_check (bytes "x") 0 [] ≡ outcome (refused 13) []
unfolding related
check-unbegun = refl

-- the answer for a relations row with these contents, and no room for a verdict
unfoldable pub answer_for : List ℕ → Answer
answer_for contents = (relations_check (alone contents) 0 []).answer

pub record Headings : Type 0 where
  pub nothing : answer_for [] ≡ refused 20
  pub first-byte-lost : answer_for (drop 1 heading_line) ≡ refused 20
  pub CR-behind : answer_for (take 130 heading_line ++ 13 ∷ 10 ∷ []) ≡ refused 20
  pub tab-behind : answer_for (take 130 heading_line ++ 9 ∷ 10 ∷ []) ≡ refused 20
  pub no-LF : answer_for (take 130 heading_line) ≡ result (0 ∷ [])
  pub LF-behind : answer_for heading_line ≡ result (0 ∷ [])
  -- 20 before 18
  pub second-line : answer_for (bytes "ADS relation\n" ++ heading_line) ≡ refused 20
  pub no_room : answer_for (heading_line ++ bytes "ADS relation") ≡ refused 18

pub headings : Headings
unfolding related answer_for
headings =
    record {
      nothing = refl;
      first-byte-lost = refl;
      CR-behind = refl;
      tab-behind = refl;
      no-LF = refl;
      LF-behind = refl;
      second-line = refl;
      no_room = refl;
    }

-- comments have no verdict; a check with spaces is well-formed, and a file of no rows declares nothing
pub line-forms :
    verdicts []
    (bytes "ADS relation "
    ∷ bytes "ads relation"
    ∷ (bytes "ADS relation" ++ drop 13 (relation child_serial test_id paper_serial test_id))
    ∷ relation child_serial test_id spaced_serial test_id
    ∷ (relation child_serial test_id paper_serial test_id ++ 9 ∷ [])
    ∷ (relation child_serial test_id paper_serial test_id ++ 13 ∷ [])
    ∷ relation child_serial test_id (take 35 paper_serial ++ bytes "002") test_id
    ∷ [])
    ≡ 2 ∷ 3 ∷ 3 ∷ 3 ∷ []
unfolding related
line-forms = refl
