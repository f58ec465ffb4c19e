-- The rows that are marked as reached from a row. Assumes nothing.
use Rattle.std.specs.Prelude.{ℕ, ◌≤◌, ◌<◌, Bool, cond, not, ◌&&◌, List, [], ◌∷◌, eqb, length}
use Rattle.metafile.specs.Below.{join_below, sum_below}
use Rattle.graph.specs.declared.Mark.{Mark}
use Rattle.graph.specs.Graph.{mark, is_done}
use Rattle.ancestors.specs.declared.rows.NotedRow.{NotedRow}
use Rattle.ancestors.specs.Noted.{noted_no}

unfoldable pub is_marked : List Mark → ℕ → Bool
is_marked marks i = is_done (mark marks i)

-- row i is another row, and is marked
unfoldable pub is_listed : List Mark → ℕ → ℕ → Bool
is_listed marks row i = not (eqb i row) && is_marked marks i

-- such rows of n, in their order
unfoldable pub listed_rows : List Mark → ℕ → ℕ → List ℕ
listed_rows marks row n = join_below n (λ (i : ℕ). cond (is_listed marks row i) (i ∷ []) [])

-- the missing parents of the rows that are marked, added up
unfoldable pub marked_sum : List Mark → List NotedRow → ℕ → ℕ
marked_sum marks rows n = sum_below n (λ (i : ℕ). cond (is_marked marks i) (noted_no rows i).missing 0)

-- missing parents of n rows whose sum is no number over the machine's
pub record Small (n : ℕ) (rows : List NotedRow) : Type 0 where
  pub few : n ≤ 64
  pub small : (i : ℕ) → i < n → (noted_no rows i).missing ≤ 1073741824
