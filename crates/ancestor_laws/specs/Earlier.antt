-- Files in which parents stand before the rows that name them. Assumes nothing.
use Rattle.std.specs.Prelude.{ℕ, ◌<◌, List}
use Rattle.metafile.specs.Reading.{rows_of}
use Rattle.metafile.specs.Append.{row_no}
use Rattle.metafile.specs.Calls.{parent_row}

-- every dependency of every row names an earlier row
abbrev pub Earlier : List ℕ → Type 0
Earlier file = (k j : ℕ) → j < (row_no (rows_of file) k).dependencies → parent_row file k j < k
