-- The index of the rows behind which a reading stands: in its first entry how many rows are entered, in its slots the tags of
-- their serial numbers. Where the index leaves a serial number open, the rows' own chunks are gone through. Where it has no
-- room it is left: then its last entry isn't 0, its first entry is how many rows are known to be there, and its second where the
-- last of them begins. Assumes nothing.
use Rattle.std.specs.Prelude.{ℕ, ◌+◌, ◌-◌, ◌≤◌, ◌<◌, true, ◌≡◌, List, length, take, get_or}
use Rattle.metafile.specs.Fields.{known}
use Rattle.metafile.specs.Reading.{rows_of, serials_of}
use Rattle.metafile.specs.Append.{row_no}
use Rattle.index.specs.Index.{size, Holds}
use Rattle.walk.specs.Walk.{place_after}

-- the rows counted, where the last of them begins, and whether the index is left
abbrev pub count_of : List ℕ → ℕ
count_of index = get_or index 0 0

abbrev pub last_of : List ℕ → ℕ
last_of index = get_or index 1 0

abbrev pub left_of : List ℕ → ℕ
left_of index = get_or index 197125 0

-- behind n rows: the rows counted are there; where the index isn't left they are among the n and entered; where they are more
-- than the n, it says where the last of them begins
pub record Indexed (file : List ℕ) (n : ℕ) (index : List ℕ) : Type 0 where
  pub long : length index ≡ size
  pub there : count_of index ≤ length (rows_of file)
  pub few : left_of index ≡ 0 → count_of index ≤ n
  pub holds : left_of index ≡ 0 → Holds (serials_of (take (count_of index) (rows_of file))) index
  pub begins : n < count_of index → last_of index ≡ place_after file (count_of index - 1)

-- the serial number x was looked up behind i rows: the index is one behind row i where x is that of row i, and where x is
-- in a row before
pub record Entered (file : List ℕ) (i : ℕ) (x index : List ℕ) : Type 0 where
  pub as_row : i < length (rows_of file) → x ≡ (row_no (rows_of file) i).serial → Indexed file (i + 1) index
  pub as-known : known x (serials_of (take i (rows_of file))) ≡ true → Indexed file (i + 1) index
