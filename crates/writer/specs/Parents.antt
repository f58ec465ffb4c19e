-- Rows named as parents: test 13, and where those that passed it stand. Assumes nothing.
use Rattle.std.specs.Prelude.{ℕ, ◌≤◌, Bool, true, not, ◌||◌, List, ◌≡◌, ltb, length}
use Rattle.metafile.specs.Header.{mark_of}
use Rattle.metafile.specs.Reading.{rows_of}
use Rattle.metafile.specs.Append.{row_no, all_below, repeated}
use Rattle.walk.specs.Survey.{values_below}

-- 13 for a file of n rows
unfoldable pub parents_refused : ℕ → List ℕ → Bool
parents_refused n ks = not (all_below n ks) || repeated ks || ltb 16 (length ks)

-- rows that passed 13, with the mark's length and where each begins and ends in the file, as walk's survey gives it
pub record Located (file : List ℕ) (mark : ℕ) (ks places ends : List ℕ) : Type 0 where
  pub few : length ks ≤ 16
  pub below : all_below (length (rows_of file)) ks ≡ true
  pub mark-is : mark ≡ length (mark_of file)
  pub places-are : places ≡ values_below 16 (λ k. (row_no (rows_of file) k).place) (length (rows_of file)) ks
  pub ends-are : ends ≡ values_below 16 (λ k. (row_no (rows_of file) k).end) (length (rows_of file)) ks
