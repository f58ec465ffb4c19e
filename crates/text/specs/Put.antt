-- Bytes put at a place of a buffer, and the place behind them. Assumes nothing.
use Rattle.std.specs.Prelude.{ℕ, ◌+◌, ◌≤◌, ◌≡◌, List, length}
use Rattle.metafile.specs.Answers.{placed}

-- these bytes are put at the place `at` of the buffer b; then it is c, and r is the place behind them
pub record Put (v : List ℕ) (at : ℕ) (b : List ℕ) (r : ℕ) (c : List ℕ) : Type 0 where
  pub end_is : r ≡ at + length v
  pub fits : r ≤ length b
  pub bytes-are : c ≡ placed at v b
