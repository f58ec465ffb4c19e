-- A survey of a file for one that is to be appended to: the reading with rows enough, whether a serial number is in a row,
-- and where the rows named as parents begin and end, the first 16 of them ("parents repeated or over 16" is refused).
-- Assumes nothing.
use Rattle.std.specs.Prelude.{ℕ, zero, suc, cond, List, [], ◌∷◌, ltb, eqb, length}
use Rattle.metafile.specs.Fields.{known}
use Rattle.metafile.specs.Reading.{reading, rows_of, serials_of}
use Rattle.metafile.specs.Append.{row_no}
use Rattle.walk.specs.declared.answers.Survey.{Survey}

-- n values, those of the rows named so far: f of a row below i, 0 for any other and behind the last
unfoldable pub values_below : ℕ → (ℕ → ℕ) → ℕ → List ℕ → List ℕ
values_below zero f i ks = []
values_below (suc n) f i [] = 0 ∷ values_below n f i []
values_below (suc n) f i (k ∷ ks) = cond (ltb k i) (f k) 0 ∷ values_below n f i ks

-- values, with v for each row named that is row i
unfoldable pub noted : ℕ → ℕ → List ℕ → List ℕ → List ℕ
noted i v [] ks = []
noted i v (x ∷ xs) [] = x ∷ xs
noted i v (x ∷ xs) (k ∷ ks) = cond (eqb k i) v x ∷ noted i v xs ks

unfoldable pub survey_of : List ℕ → List ℕ → List ℕ → Survey
survey_of file serial ks =
    record {
      count = length (rows_of file);
      stop = (reading file).stop;
      number = (reading file).number;
      good = (reading file).good;
      known = known serial (serials_of (rows_of file));
      places = values_below 16 (λ (k : ℕ). (row_no (rows_of file) k).place) (length (rows_of file)) ks;
      ends = values_below 16 (λ (k : ℕ). (row_no (rows_of file) k).end) (length (rows_of file)) ks;
    }
