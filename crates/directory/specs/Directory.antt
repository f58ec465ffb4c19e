-- A directory of serial numbers that stand at places of a file: keys, starts and slots in one array (crate index, size).
-- A slot has 0, or the number of an entry and 1. The search for a serial number begins at the slot of its hash and goes on
-- to the first empty one. Assumes nothing.
use Rattle.std.specs.Prelude.{ℕ, ◌+◌, ◌-◌, ◌%◌, ◌≤◌, ◌<◌, true, ◌≡◌, List, length, drop, get_or}
use Rattle.metafile.specs.Bytes.{part}
use Rattle.metafile.specs.Fields.{same_serial}
use Rattle.index.specs.Index.{hash_of, slot_of, size, reached}

-- ---- entries and slots

-- how many entries there can be
abbrev pub room : ℕ
room = 52000

-- the place of the serial number of entry j, and the number that is given for it
abbrev pub key_no : List ℕ → ℕ → ℕ
key_no d j = get_or d j 0

abbrev pub start_no : List ℕ → ℕ → ℕ
start_no d j = get_or d (52000 + j) 0

-- the serial number of entry j
abbrev pub serial_no : List ℕ → List ℕ → ℕ → List ℕ
serial_no file d j = part (key_no d j) 38 file

-- the slot of a hash; more slots stand behind the last of them
unfoldable pub slot_for : ℕ → ℕ
slot_for h = 104000 + slot_of h % 92003

-- ---- what a directory holds

-- n entries: each is reached from the slot of its serial number on
pub record Directory (file : List ℕ) (n : ℕ) (d : List ℕ) : Type 0 where
  pub long : length d ≡ size
  pub few : n ≤ room
  pub inside : (j : ℕ) → j < n → key_no d j + 38 ≤ length file
  pub reach : (j : ℕ) → j < n → reached (j + 1) (drop (slot_for (hash_of (serial_no file d j))) d) ≡ true

pub record Empty (d : List ℕ) : Type 0 where
  pub long : length d ≡ size
  pub slots : (i : ℕ) → 104000 ≤ i → get_or d i 0 ≡ 0

-- d' has r entries: the n of d and, where r is more, the new one; an empty directory takes a first entry
pub record Added (file : List ℕ) (key start n : ℕ) (d : List ℕ) (r : ℕ) (d' : List ℕ) : Type 0 where
  pub holds : Directory file r d'
  pub more : (n ≤ r) × (r ≤ n + 1)
  pub kept : (j : ℕ) → j < n → (key_no d' j ≡ key_no d j) × (start_no d' j ≡ start_no d j)
  pub new : r ≡ n + 1 → (key_no d' n ≡ key) × (start_no d' n ≡ start)
  pub begins : n ≡ 0 → Empty d → r ≡ 1

-- r is 0, or the number of an entry with this serial number and 1; it is not 0 where an entry has it
pub record Sought (file d : List ℕ) (n : ℕ) (serial : List ℕ) (r : ℕ) : Type 0 where
  pub few : r ≤ n
  pub found : 0 < r → same_serial (serial_no file d (r - 1)) serial ≡ true
  pub all : (j : ℕ) → j < n → same_serial (serial_no file d j) serial ≡ true → 0 < r
