-- What the functions that are not public say of their results. Assumes nothing.
use Rattle.std.specs.Prelude.{ℕ, ◌+◌, ◌-◌, Bool, ◌&&◌, List, leb, drop}
use Rattle.metafile.specs.Fields.{same_serial}
use Rattle.index.specs.Index.{first_of}
use Rattle.directory.specs.Directory.{serial_no, slot_for}

-- the first slot, from that of h on, that is empty or has e
unfoldable pub free_for : ℕ → ℕ → List ℕ → ℕ
free_for e h d = slot_for h + first_of e (drop (slot_for h) d)

-- e is one of n entries, and has this serial number
unfoldable pub is_entry : List ℕ → List ℕ → ℕ → List ℕ → ℕ → Bool
is_entry file d n serial e = leb e n && same_serial (serial_no file d (e - 1)) serial
