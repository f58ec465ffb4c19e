-- Verdicts by the rows that were gone through so far. Assumes nothing.
use Rattle.std.specs.Prelude.{ℕ, Bool, false, ◌≡◌, List, ◌++◌, length, drop}
use Rattle.metafile.specs.Below.{any_below}
use Rattle.metafile.specs.Relations.{split_on, row_declares, verdicts_by}

-- by no row: a line that isn't malformed is undeclared
unfoldable pub never : List (List ℕ) → Bool
never fs = false

-- one of the first k rows declares the dependency of a line with these fields
unfoldable pub declared_below : List ℕ → ℕ → List (List ℕ) → Bool
declared_below file k fs = any_below k (row_declares file fs)

-- the list has the verdicts of the text's lines in front, by the first k rows
pub record Judging (file : List ℕ) (k : ℕ) (text list : List ℕ) : Type 0 where
  pub is : list ≡ verdicts_by (declared_below file k) (split_on 10 text) ++ drop (length (verdicts_by never (split_on 10 text))) list
