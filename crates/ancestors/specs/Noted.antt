-- The rows of a file, noted as far as 64. Assumes nothing.
use Rattle.std.specs.Prelude.{ℕ, ◌+◌, ◌*◌, ◌≤◌, ◌<◌, ◌≡◌, List, length, get_or}
use Rattle.metafile.specs.Bytes.{part}
use Rattle.metafile.specs.Reading.{rows_of}
use Rattle.metafile.specs.Append.{row_no}
use Rattle.ancestors.specs.declared.rows.NotedRow.{NotedRow}

abbrev pub noted_no : List NotedRow → ℕ → NotedRow
noted_no rows i = get_or rows i (record { place = 0; serial = 0; dependencies = 0; missing = 0 })

-- row i: its serial number stands at the one place, its chunk begins at the other, and has so many dependencies
pub record NotedAs (file : List ℕ) (i : ℕ) (r : NotedRow) : Type 0 where
  pub serial-is : part r.serial 38 file ≡ (row_no (rows_of file) i).serial
  pub serial-inside : r.serial + 38 ≤ length file
  pub place_is : r.place ≡ (row_no (rows_of file) i).place
  pub count-is : r.dependencies ≡ (row_no (rows_of file) i).dependencies
  pub inside : r.place + (568 + 344 * r.dependencies) ≤ length file

-- the first n rows, as far as 64
pub record Noted (file : List ℕ) (n : ℕ) (rows : List NotedRow) : Type 0 where
  pub long : length rows ≡ 64
  pub each : (i : ℕ) → i < n → i < 64 → NotedAs file i (noted_no rows i)

-- all rows of the file
pub record AllNoted (file : List ℕ) (rows : List NotedRow) : Type 0 where
  pub count : length rows ≡ length (rows_of file)
  pub few : length rows ≤ 64
  pub each : (i : ℕ) → i < length rows → NotedAs file i (noted_no rows i)
