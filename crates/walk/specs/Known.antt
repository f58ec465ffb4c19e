-- The rows of a file once more, behind a reading that has gone through all of them. Assumes nothing.
use Rattle.std.specs.Prelude.{ℕ, ◌+◌, ◌*◌, ◌≤◌, ◌<◌, ◌≡◌, List, length}
use Rattle.metafile.specs.Bytes.{part}
use Rattle.metafile.specs.Reading.{rows_of}
use Rattle.metafile.specs.Append.{row_no}
use Rattle.walk.specs.declared.answers.Header.{Header}
use Rattle.walk.specs.declared.cursor.Cursor.{Cursor}
use Rattle.walk.specs.declared.known.Places.{Places}
use Rattle.walk.specs.Cursor.{Behind}

-- the cursor stands behind the last row: how many rows there are, and where there are any, the file header
pub record Ended (file : List ℕ) (c : Cursor) : Type 0 where
  pub count : c.row ≡ length (rows_of file)
  pub begun : 0 < c.row → Behind file c.header 0 c.header.end

-- where the parts of row n stand, whose chunk begins at the place `at`
pub record RowPlaces (file : List ℕ) (h : Header) (n at : ℕ) (r : Places) : Type 0 where
  pub place_is : (row_no (rows_of file) n).place ≡ at
  pub dependencies-is : r.dependencies ≡ (row_no (rows_of file) n).dependencies
  pub dependencies-inside : at + (568 + 344 * r.dependencies) ≤ r.end
  pub end-inside : r.end ≤ length file
  pub serial-is : part r.serial 38 file ≡ (row_no (rows_of file) n).serial
  pub serial-inside : r.serial + 38 ≤ length file
  pub next : Behind file h (n + 1) r.end
