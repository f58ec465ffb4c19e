-- What walk's survey of the file says to the tests and to the copies from parents.
--     surveyed-number surveyed-stop   12 by it
--     tests-are     13, 9 and 15 by it are those of append
--     located       the rows named as parents that passed 13
-- Assumes nothing.
use Prim.Native.Nat.{ℕ, ◌≤◌}
use mathlib.Core.Bool.{true}
use mathlib.Core.List.{List}
use mathlib.Core.Path.{◌≡◌, ap}
use lib.ListN.{length}
use Rattle.metafile.specs.Fields.{known}
use Rattle.metafile.specs.Header.{mark_of}
use Rattle.metafile.specs.Reading.{reading, rows_of, serials_of}
use Rattle.metafile.specs.Answers.{Test, first_refusal}
use Rattle.metafile.specs.Append.{all_below}
use Rattle.walk.specs.declared.answers.Survey.{Survey}
use Rattle.walk.specs.Survey.{survey_of}
use Rattle.append.specs.Tests.{file_tests}
use Rattle.writer.specs.Parents.{Located}

-- 13, 9 and 15 by the rows of the file
abbrev pub tests_of : List ℕ → List ℕ → List ℕ → List Test
tests_of file ks serial = file_tests file (length (rows_of file)) (known serial (serials_of (rows_of file))) ks

module _ (file serial ks : List ℕ) (s : Survey) (is : s ≡ survey_of file serial ks) where
  pub surveyed-number : s.number ≡ (reading file).number
  unfolding survey_of
  surveyed-number = ap (λ (x : Survey). x.number) is

  pub surveyed-stop : s.stop ≡ (reading file).stop
  unfolding survey_of
  surveyed-stop = ap (λ (x : Survey). x.stop) is

  count-is : s.count ≡ length (rows_of file)
  unfolding survey_of
  count-is = ap (λ (x : Survey). x.count) is

  known_is : s.known ≡ known serial (serials_of (rows_of file))
  unfolding survey_of
  known_is = ap (λ (x : Survey). x.known) is

  pub tests-are : first_refusal (file_tests file s.count s.known ks) ≡ first_refusal (tests_of file ks serial)
  tests-are = rw (count-is, known_is)

  pub located : (mark : ℕ) → mark ≡ length (mark_of file) → length ks ≤ 16 → all_below (length (rows_of file)) ks ≡ true → Located file mark ks s.places s.ends
  unfolding survey_of
  located mark m few below =
      record {
        few = few;
        below = below;
        mark-is = m;
        places-are = ap (λ (x : Survey). x.places) is;
        ends-are = ap (λ (x : Survey). x.ends) is;
      }
