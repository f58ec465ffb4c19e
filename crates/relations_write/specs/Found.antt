-- Relations rows by their serial numbers, and dependencies that are listed. Assumes nothing.
use Rattle.std.specs.Prelude.{ℕ, ◌≤◌, ◌<◌, Bool, true, false, not, ◌&&◌, ◌≡◌, List, ltb, length}
use Rattle.metafile.specs.Bytes.{part, same}
use Rattle.metafile.specs.Chunk.{dependency_serial_of, dependency_sub_format_of}
use Rattle.metafile.specs.Reading.{rows_of}
use Rattle.metafile.specs.Append.{row_no}
use Rattle.metafile.specs.Calls.{row_with, chunk_of}
use Rattle.metafile.specs.Relations.{relations_name, is_relations}
use Rattle.directory.specs.Directory.{key_no, Directory}
use Rattle.walk.specs.Cursor.{Behind}
use Rattle.relations_write.specs.declared.found.Found.{Found}

-- the row with this serial number is a relations row
unfoldable pub finds_relations : List ℕ → List ℕ → Bool
finds_relations file x =
    ltb (row_with x (rows_of file)) (length (rows_of file)) && is_relations (chunk_of file (row_with x (rows_of file)))

-- dependency j of the chunk s is listed
unfoldable pub listed_in : List ℕ → List ℕ → ℕ → Bool
listed_in file s j =
    not (same (dependency_sub_format_of j s) relations_name) && not (finds_relations file (dependency_serial_of j s))

-- at the place p stands the serial number of a relations row before row k
pub record OfRow (file : List ℕ) (k p : ℕ) : Type 0 where
  pub row : ℕ
  pub before : row < k
  pub serial-is : part p 38 file ≡ (row_no (rows_of file) row).serial
  pub relations : is_relations (chunk_of file row) ≡ true

-- one of n entries has the serial number of row i
pub record Entry (file d : List ℕ) (n i : ℕ) : Type 0 where
  pub number : ℕ
  pub below : number < n
  pub serial-is : part (key_no d number) 38 file ≡ (row_no (rows_of file) i).serial

-- the n entries of a directory are the relations rows before row k
pub record Held (file d : List ℕ) (k n : ℕ) : Type 0 where
  pub holds : Directory file n d
  pub sound : (j : ℕ) → j < n → OfRow file k (key_no d j)
  pub complete : (i : ℕ) → i < k → is_relations (chunk_of file i) ≡ true → Entry file d n i

pub record FoundIn (file d : List ℕ) (t : Found) : Type 0 where
  pub rows_are : t.rows ≡ length (rows_of file)
  pub begun : 0 < t.rows → Behind file t.header 0 t.header.end
  pub behind : 0 < t.rows → Behind file t.header t.upto t.at
  pub few : t.upto ≤ t.rows
  pub holds : Directory file t.entries d
  pub held : ∥ Held file d t.upto t.entries ∥₁
  pub small : length file ≤ 1073741824

-- the rows from row `from` on were gone through for a relations row with a serial number
pub record Scanned (file : List ℕ) (from : ℕ) (x : List ℕ) (r : Bool) : Type 0 where
  pub there : r ≡ true → finds_relations file x ≡ true
  pub none : r ≡ false → from ≤ row_with x (rows_of file) → finds_relations file x ≡ false
