-- Which of several relation chunks holds, by computing: a file with four of them and another chunk, and what the check gives
-- where no row is named. An edit of the definitions fails here. Assumes nothing.
--     holds          "the latest Chunk_Writing_Date, and of equal dates the later row"
--     holds-checked  its verdicts, and the row
--     wrong-heading  sum and heading aren't asked in choosing
--     none unbegun   13
use Prim.Native.Nat.{ℕ}
use mathlib.Core.Path.{◌≡◌, refl}
use mathlib.Core.List.{List, [], ◌∷◌, ◌++◌}
use Rattle.metafile.specs.Bytes.{bytes}
use Rattle.metafile.specs.Lines.{write}
use Rattle.metafile.specs.Closing.{unsummed, summed_bytes}
use Rattle.metafile.specs.Answers.{result, refused, outcome}
use Rattle.metafile.specs.Relations.{relations_row, relations_check_latest}
use Rattle.metafile.proofs.Samples.{paper_serial, begun_abab}
use Rattle.metafile.proofs.Relations.{relations_serial, child_serial, missing_serial, test_id, relations_id, heading_line, unclosed, related}

unfoldable pub fourth_serial : List ℕ
fourth_serial = bytes "#20240229123456789SURVEYDESK0100046005"

unfoldable pub fifth_serial : List ℕ
fifth_serial = bytes "#20240229123456789SURVEYDESK0100047006"

-- a chunk without dependencies, recorded and written on these days; its sum is bad
unfoldable pub chunk_on : List ℕ → List ℕ → List ℕ → List ℕ → List ℕ → List ℕ
chunk_on serial recorded written id contents =
    unclosed id 0 [] contents
    ++ summed_bytes (bytes "ABAB")
    (record {
      serial = serial;
      recording_date = recorded;
      recording_agent = bytes "RECORDER";
      writing_date = written;
      writing_agent = bytes "DESK";
    })
    ++ write (unsummed (bytes "ABAB")) (bytes "000" ∷ [])

-- rows 0 and 2 were written on one day; row 1 was recorded later, and row 3 is no relations row
unfoldable pub four : List ℕ
four =
    begun_abab
    ++ chunk_on paper_serial (bytes "20240201") (bytes "20240301") relations_id heading_line
    ++ chunk_on relations_serial (bytes "20240401") (bytes "20240229") relations_id heading_line
    ++ chunk_on child_serial (bytes "20240201") (bytes "20240301") relations_id (heading_line ++ bytes "ADS relation")
    ++ chunk_on missing_serial (bytes "20240201") (bytes "20240501") test_id []

-- behind them one written on the last day of all, its heading wrong
unfoldable pub five : List ℕ
five = four ++ chunk_on fourth_serial (bytes "00010101") (bytes "99991231") relations_id []

unfoldable pub plain : List ℕ
plain = begun_abab ++ chunk_on fifth_serial (bytes "20240201") (bytes "20240301") test_id heading_line

unfoldable pub several : Unit {0}
unfolding related fourth_serial fifth_serial chunk_on four five plain
several = tt

pub holds : relations_row four ≡ 2
unfolding several
holds = refl

pub holds-checked : relations_check_latest four (9 ∷ 9 ∷ []) ≡ outcome (result (1 ∷ 2 ∷ [])) (3 ∷ 9 ∷ [])
unfolding several
holds-checked = refl

pub wrong-heading : relations_check_latest five (9 ∷ []) ≡ outcome (refused 20) (9 ∷ [])
unfolding several
wrong-heading = refl

pub none : relations_check_latest plain (9 ∷ []) ≡ outcome (refused 13) (9 ∷ [])
unfolding several
none = refl

pub unbegun : relations_check_latest (bytes "x") [] ≡ outcome (refused 13) []
unfolding several
unbegun = refl
