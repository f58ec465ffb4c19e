-- How many rows are there, found by a look at the chunks that a reading hasn't come to yet. It all speaks of one chunk, the
-- one behind the last row: no other can have a serial number that is in a row before it. The look has a filter, in the array
-- that is else the index, and places of serial numbers in one of its own. Assumes nothing.
use Rattle.std.specs.Prelude.{ℕ, ◌+◌, ◌-◌, ◌≤◌, ◌<◌, true, ◌≡◌, List, length, take, drop}
use Rattle.metafile.specs.Bytes.{part}
use Rattle.metafile.specs.Fields.{known}
use Rattle.metafile.specs.Header.{is_llc, mark_of}
use Rattle.metafile.specs.Chunk.{serial_of, chunk_fault}
use Rattle.metafile.specs.Reading.{rows_of, serials_of}
use Rattle.index.specs.Index.{hash_of, size}
use Rattle.filter.specs.Filter.{covered_by}
use Rattle.order.specs.Order.{listed, Again}
use Rattle.walk.specs.Walk.{place_after, serial_at}

-- where the chunk behind the last row begins, its serial number, and where that stands
unfoldable pub next_at : List ℕ → ℕ
next_at file = place_after file (length (rows_of file))

unfoldable pub next_serial : List ℕ → List ℕ
next_serial file = serial_of (mark_of file) (drop (next_at file) file)

unfoldable pub next_place : List ℕ → ℕ
next_place file = serial_at file (next_at file)

-- this serial number is in one of the first k rows
abbrev pub Repeats : List ℕ → ℕ → Type 0
Repeats file k = known (next_serial file) (serials_of (take k (rows_of file))) ≡ true

-- so many places can be noted at once
abbrev pub room : ℕ
room = 40000

-- the filter has the first k rows, so far as this serial number is concerned
pub record Marked (file : List ℕ) (k : ℕ) (words : List ℕ) : Type 0 where
  pub long : length words ≡ size
  pub marks : Repeats file k → covered_by words (hash_of (next_serial file)) ≡ true

-- the place p was considered where m places were noted, and r are now: it is noted if its hash was set, else that is set now
pub record Considered (file : List ℕ) (p m : ℕ) (words places : List ℕ) (r : ℕ) (words' places' : List ℕ) : Type 0 where
  pub long : length words' ≡ length words
  pub wide : length places' ≡ length places
  pub more : (m ≤ r) × (r ≤ m + 1)
  pub new : covered_by words (hash_of (part p 38 file)) ≡ true → listed p (take r places') ≡ true
  pub set : covered_by words' (hash_of (part p 38 file)) ≡ true
  pub stays : (g : ℕ) → covered_by words g ≡ true → covered_by words' g ≡ true
  pub kept : (b : ℕ) → listed b (take m places) ≡ true → listed b (take r places') ≡ true

-- n chunks are looked at, and places noted: where the chunk behind the last row is among the n, it is whole, and the place of
-- its serial number is noted
pub record Looked (file : List ℕ) (n : ℕ) (noted : List ℕ) : Type 0 where
  pub whole : length (rows_of file) < n → chunk_fault (is_llc file) (mark_of file) (drop (next_at file) file) ≡ 0
  pub found : length (rows_of file) < n → listed (next_place file) noted ≡ true

-- the filter has the serial number at each place noted
pub record Hashed (file noted words : List ℕ) : Type 0 where
  pub covers : (b : ℕ) → listed b noted ≡ true → b + 38 ≤ length file → covered_by words (hash_of (part b 38 file)) ≡ true

-- no place noted behind p with its serial number is before r
pub record Before (file noted : List ℕ) (p r : ℕ) : Type 0 where
  pub first : (b : ℕ) → listed b noted ≡ true → b + 38 ≤ length file → Again file p b → r ≤ b

-- so many rows are there, and where the last of them begins
pub record Known (file : List ℕ) (rows last : ℕ) : Type 0 where
  pub there : rows ≤ length (rows_of file)
  pub inside : last ≤ length file
  pub begins : 0 < rows → last ≡ place_after file (rows - 1)
