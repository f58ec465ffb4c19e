-- The table of steps, where row a goes to row b if one of its dependencies names it, and how many name no row. Assumes nothing.
use Rattle.std.specs.Prelude.{ℕ, ◌*◌, ◌≤◌, ◌<◌, ◌≡◌, List, length, get_or}
use Rattle.metafile.specs.Ancestors.{depends_on, missing_of}
use Rattle.graph.specs.Graph.{goes}
use Rattle.ancestors.specs.declared.rows.NotedRow.{NotedRow}
use Rattle.ancestors.specs.Noted.{noted_no}

-- of n rows, the steps of the first m are there, and the table is empty behind them
pub record Tabled (file : List ℕ) (n m : ℕ) (t : List ℕ) : Type 0 where
  pub long : length t ≡ 4096
  pub steps : (a b : ℕ) → a < m → b < n → goes t a b ≡ depends_on file a b
  pub empty : (i : ℕ) → m * 64 ≤ i → i < 4096 → get_or t i 0 ≡ 0

-- the dependencies that name no row, of each row
pub record Counted (file : List ℕ) (rows : List NotedRow) : Type 0 where
  pub each : (i : ℕ) → i < length rows → (noted_no rows i).missing ≡ missing_of file i

-- the rows as they were, but for the number of their dependencies that name no row
pub record Kept (before after : List NotedRow) : Type 0 where
  pub count : length after ≡ length before
  pub each : (i : ℕ) → noted_no after i ≡ record (noted_no before i) { missing = (noted_no after i).missing }
