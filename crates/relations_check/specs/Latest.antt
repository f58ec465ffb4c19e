-- The relation chunk that holds, among the rows that were gone through so far. Assumes nothing.
use Rattle.std.specs.Prelude.{ℕ, ◌≤◌, true, ◌≡◌, List, Option, None, Some, length}
use Rattle.metafile.specs.Reading.{rows_of}
use Rattle.metafile.specs.Calls.{chunk_of}
use Rattle.metafile.specs.Relations.{is_relations, latest_below}
use Rattle.walk.specs.declared.cursor.Cursor.{Cursor}
use Rattle.walk.specs.Cursor.{cursor_at}
use Rattle.walk.specs.Known.{Ended}
use Rattle.relations_check.specs.declared.latest.Latest.{Latest}

-- the cursor stands at a row of a file within the limit
pub record AtRow (file : List ℕ) (c : Cursor) : Type 0 where
  pub is : c ≡ cursor_at file c.row
  pub goes : c.go ≡ true
  pub small : length file ≤ 1073741824

-- the row that holds among the first n rows, and its day
pub record Holds (file : List ℕ) (n : ℕ) (l : Latest) : Type 0 where
  pub day-is : l.day ≡ (latest_below file n).day
  pub at_row : AtRow file l.own
  pub relations : is_relations (chunk_of file l.own.row) ≡ true
  pub row_is : l.own.row ≡ (latest_below file n).row

-- none of them is a relations row
pub record HoldsNone (file : List ℕ) (n : ℕ) : Type 0 where
  pub day-is : (latest_below file n).day ≡ 0
  pub none : (latest_below file n).row ≡ length (rows_of file)

-- either
abbrev pub Holding : List ℕ → ℕ → Option Latest → Type 0
Holding file n None = HoldsNone file n
Holding file n (Some l) = Holds file n l

-- the row that holds among all, and the cursor behind the last
pub record Chosen (file : List ℕ) (end : Cursor) (l : Option Latest) : Type 0 where
  pub ended : Ended file end
  pub holding : Holding file (length (rows_of file)) l
