-- Demand 3, as one proposition over the defined values of append, read and parent: what the reading gives after power
-- fails in an accepted append. Cut.antt says what of the disk.
use Rattle.std.specs.Prelude.{ℕ, ◌+◌, ◌<◌, true, false, cond, ◌≡◌, ◌⊎◌, List, [], ◌∷◌, ◌++◌, length, take, drop, get_or}
use Rattle.metafile.specs.declared.Row.{Row}
use Rattle.metafile.specs.Bytes.{part}
use Rattle.metafile.specs.Fields.{digits_of, padded}
use Rattle.metafile.specs.Lines.{time_standard, event_synch}
use Rattle.metafile.specs.Header.{mark_of}
use Rattle.metafile.specs.Chunk.{sub_format, generic, synch_type, offset_bytes, dependency_serial_of, dependency_sub_format_of, header_length_for, dependency_length_for, header_bytes_for, by_count, by_mark, offset_under}
use Rattle.metafile.specs.Reading.{reading, rows_of}
use Rattle.metafile.specs.Answers.{result}
use Rattle.metafile.specs.Append.{Given, sub_format_given, stamp_given, integrity_given, row_no, sub_format_of, content_count_for, append}
use Rattle.metafile.specs.Calls.{ReadOutcome, read, parent}
use Rattle.metafile.specs.Cut.{CutPoint, remains}

-- "an append is accepted when it answers its ends and no number"
unfoldable pub Accepted : List ℕ → ℕ → Given → ℕ → ℕ → ℕ → Type 0
Accepted buffer len g e₁ e₂ e₃ = (append buffer len g).answer ≡ result (e₁ ∷ e₂ ∷ e₃ ∷ [])

-- "The old file is the bytes handed to it as the file; the finished file is these and then the three writes whole, as
-- the buffer then holds them up to the last end."
unfoldable pub finished : List ℕ → ℕ → Given → ℕ → List ℕ
finished buffer len g e₃ = take e₃ (append buffer len g).buffer

-- "The new chunk is as handed in when its row holds: .." and how its end was found: "After an append it is the way the
-- caller chose."
unfoldable pub new_row : List ℕ → Given → ℕ → ℕ → Row
new_row old g e₁ e₃ =
    record {
      serial = g.description.serial;
      place = length old;
      header = header_bytes_for (length g.parents) (length g.specific);
      contents = e₁;
      bytes = length g.contents;
      end = e₃;
      dependencies = length g.parents;
      offset = offset_under g.description.synch g.description.standard g.description.offset;
      multichunk = false;
      good = true;
      ending = cond g.is_open by_mark by_count;
    }

-- a line of the closing: w bytes at the distance d from the integrity data's first byte; c is where the closing begins
unfoldable pub integrity_at : ℕ → List ℕ → ℕ → ℕ → List ℕ → List ℕ
integrity_at c m d w s = part (c + length m + d) w s

-- "Its lines hold the fields given": the lines of the chunk at the old end, each at its distance from there, and
-- those of the closing at theirs (its labels are there, since the chunk is read as a row). "the specific data given stand byte for byte as the header's last s bytes, the data
-- from the contents place; and parent answers its dependency j with the row named as parent j, both from 0,
-- sub-formats agreeing."
pub record HandedIn (old : List ℕ) (g : Given) (e₁ e₂ : ℕ) (file : List ℕ) (chunk : List ℕ) : Type 0 where
  pub header-length : part 20 12 chunk ≡ digits_of 12 (header_length_for (length g.parents) (length g.specific))
  pub sub-format : sub_format chunk ≡ sub_format_given g.description
  pub generic-type : generic chunk ≡ g.description.generic
  pub synch-type : synch_type chunk ≡ g.description.synch
  pub time-standard : part 366 41 chunk ≡ stamp_given time_standard.kind g.description.standard g.description.alternate
  pub time-offset : offset_bytes chunk ≡ g.description.offset
  pub event-synch : part 461 41 chunk ≡ stamp_given event_synch.kind g.description.event g.description.linked
  pub dependency-length : part 527 12 chunk ≡ digits_of 12 (dependency_length_for (length g.parents))
  pub dependency-count : part 563 4 chunk ≡ digits_of 4 (length g.parents)
  pub dependency-serial : (j : ℕ) → j < length g.parents → dependency_serial_of j chunk ≡ (row_no (rows_of old) (get_or g.parents j 0)).serial
  pub dependency-sub-format : (j : ℕ) → j < length g.parents → dependency_sub_format_of j chunk ≡ sub_format_of old (row_no (rows_of old) (get_or g.parents j 0))
  pub specific-data : part (header_bytes_for (length g.parents) 0) (length g.specific) chunk ≡ g.specific
  pub content-length :
      part (header_bytes_for (length g.parents) (length g.specific) + 21) 12 chunk
      ≡ digits_of 12 (content_count_for g.is_open g.contents)
  pub contents : part e₁ (length g.contents) file ≡ g.contents
  pub serial : integrity_at e₂ (mark_of old) 20 38 file ≡ g.description.serial
  pub recording-date : integrity_at e₂ (mark_of old) 80 8 file ≡ g.description.recorded
  pub recording-agent : integrity_at e₂ (mark_of old) 111 32 file ≡ padded 32 (integrity_given g.description).recording_agent
  pub writing-date : integrity_at e₂ (mark_of old) 163 8 file ≡ g.description.written
  pub writing-agent : integrity_at e₂ (mark_of old) 192 32 file ≡ padded 32 (integrity_given g.description).writing_agent
  pub parents : (j : ℕ) → j < length g.parents → parent file (length (rows_of old)) j ≡ result (get_or g.parents j 0 ∷ 1 ∷ [])

-- "Clean means number 0 and stop at the file's end", and not of a file of no bytes.
pub record Clean (file : List ℕ) (r : ReadOutcome) : Type 0 where
  pub some_bytes : 0 < length file
  pub number : r.answer.number ≡ 0
  pub stop : r.answer.stop ≡ length file

-- what is demanded of the bytes that a cut left, read into a table. Finished or not is decided by the bytes alone.
pub record Safe (old : List ℕ) (g : Given) (e₁ e₂ e₃ : ℕ) (done left : List ℕ) (table : List Row) : Type 0 where
  -- not finished: exactly the old rows, and the stop at the old end
  pub old-count : (left ≡ done → ⊥) → (read left table).answer.count ≡ length (rows_of old)
  pub old-rows : (left ≡ done → ⊥) → (read left table).table ≡ rows_of old ++ drop (length (rows_of old)) table
  pub old-stop : (left ≡ done → ⊥) → (read left table).answer.stop ≡ length old
  -- finished: the old rows, then the new one, no further row, and the stop at the new end
  pub new-count : left ≡ done → (read left table).answer.count ≡ length (rows_of old) + 1
  pub new-rows : left ≡ done → (read left table).table ≡ rows_of old ++ new_row old g e₁ e₃ ∷ drop (length (rows_of old) + 1) table
  pub new-stop : left ≡ done → (read left table).answer.stop ≡ e₃
  pub new-end : length done ≡ e₃
  pub handed-in : left ≡ done → HandedIn old g e₁ e₂ left (drop (length old) left)
  -- the header's sum is reported as before
  pub header-sum : (read left table).answer.good ≡ (reading old).good
  -- a dependency found before is found at the same row, with the same agreement
  pub found : (k j i a : ℕ) → parent old k j ≡ result (i ∷ a ∷ []) → parent left k j ≡ result (i ∷ a ∷ [])
  -- one that was missing is found, if at all, only in the finished file and at the new row
  pub missing : (k j : ℕ) → (left ≡ done → ⊥) → parent old k j ≡ result [] → parent left k j ≡ result []
  pub found-late : (k j : ℕ) → left ≡ done → parent old k j ≡ result []
      → (parent left k j ≡ result []) ⊎ ((a : ℕ) × (parent left k j ≡ result (length (rows_of old) ∷ a ∷ [])))
  -- clean exactly where the bytes are the old file or the finished one
  pub clean-if : (left ≡ old) ⊎ (left ≡ done) → Clean left (read left table)
  pub clean-only-if : Clean left (read left table) → (left ≡ old) ⊎ (left ≡ done)

-- Demand 3: for every accepted append, every cut point, and every table with at least one row more than the old file has
unfoldable pub Demand3 : Type 0
Demand3 =
    (buffer : List ℕ) (len : ℕ) (g : Given) (e₁ e₂ e₃ : ℕ)
    → Accepted buffer len g e₁ e₂ e₃
    → (cut : CutPoint) (table : List Row)
    → length (rows_of (take len buffer)) < length table
    → Safe
    (take len buffer)
    g
    e₁
    e₂
    e₃
    (finished buffer len g e₃)
    (remains (append buffer len g).buffer len e₁ e₂ e₃ cut)
    table
