-- The sizes of the stretches, and the distances at which values are read, computed from the table of lines: the
-- numbers in the definitions are those that the table gives. Each length is measured from just after its last digit,
-- its own LF included. Assumes nothing.
use Prim.Native.Nat.{ℕ, zero, suc, ◌+◌, ◌*◌}
use mathlib.Core.Path.{◌≡◌, refl}
use mathlib.Core.List.{List, [], ◌∷◌, ◌++◌}
use native.Mathlib.Omega.{arith}
use lib.ListN.{length, take, get_or}
use Rattle.metafile.specs.Lines.{text, i12, i4, fixed, value, Line, lf, opened, lines_of, width, field_width, size, chunk_header_length, sub_format_id, generic_type, time_synch_type, time_standard, time_offset, event_synch, time_and_event, dependency_length, dependency_count, dependency_serial, dependency_sub_format, content_length, multi_header_length, type_count, sub_type_length, short_id, chunk_serial, recording_date, recording_agent, writing_date, writing_agent, checksum, format_id, separator_strategy}
use Rattle.metafile.specs.Closing.{integrity_lines, summed, unsummed, closing}
use Rattle.metafile.specs.Header.{title}
use Rattle.metafile.specs.Multi.{multi_length_for, mini_label}
use Rattle.metafile.specs.Chunk.{given_lines, head_lines, head, dependency_fields, dependency_length_for, header_length_for, header_bytes_for}
use Rattle.laws.proofs.Table.{size-split}

-- opens the table of lines
unfoldable pub lines : Unit {0}
unfolding size field_width width lines_of opened lf i12 i4 chunk_header_length sub_format_id generic_type time_synch_type time_standard time_offset event_synch time_and_event dependency_length dependency_count dependency_serial dependency_sub_format content_length multi_header_length type_count sub_type_length short_id chunk_serial recording_date recording_agent writing_date writing_agent checksum format_id separator_strategy given_lines head_lines integrity_lines
lines = tt

-- ---- stretches

pub size-title : size title ≡ 65
unfolding lines title
size-title = refl

pub size-head : size head ≡ 567
unfolding lines head
size-head = refl

size-dependency : size (lines_of (dependency_serial ∷ dependency_sub_format ∷ [])) ≡ 344
unfolding lines
size-dependency = refl

pub size-dependencies : (n : ℕ) → size (dependency_fields n) ≡ 344 * n
unfolding size dependency_fields
size-dependencies zero = refl
size-dependencies (suc n) =
    omega (arith, size-split (lines_of (dependency_serial ∷ dependency_sub_format ∷ [])) (dependency_fields n), size-dependency, size-dependencies n)

pub size-summed : (m : List ℕ) → size (summed m) ≡ length m + 250
unfolding lines summed
size-summed m = omega arith

pub size-unsummed : (m : List ℕ) → size (unsummed m) ≡ 4 + length m
unfolding lines unsummed
size-unsummed m = omega arith

pub size-closing : (m : List ℕ) → size (closing m) ≡ length m + 254 + length m
unfolding closing
size-closing m = omega (arith, size-split (summed m) (unsummed m), size-summed m, size-unsummed m)

-- ---- lengths, each from its LF to the end of what it measures

pub dependency-length-measures : (n : ℕ) → dependency_length_for n ≡ size (lf ∷ opened dependency_count ++ lf ∷ dependency_fields n)
unfolding lines dependency_length_for
dependency-length-measures n = omega (arith, size-dependencies n)

pub header-length-measures : (n s : ℕ)
    → header_length_for n s ≡ size (lf ∷ lines_of (given_lines ++ dependency_length ∷ []) ++ opened dependency_count ++ lf ∷ dependency_fields n) + s
unfolding lines header_length_for
header-length-measures n s = omega (arith, size-dependencies n)

pub header-bytes-measure : (n s : ℕ) → header_bytes_for n s ≡ size (head ++ lf ∷ dependency_fields n) + s
unfolding lines head header_bytes_for
header-bytes-measure n s = omega (arith, size-dependencies n)

pub multi-length-measures : (types : ℕ) → multi_length_for types ≡ size (lf ∷ lines_of (type_count ∷ [])) + types
unfolding lines multi_length_for
multi-length-measures types = refl

-- ---- distances

-- where the value of line i stands, from the first byte of the lines
unfoldable pub value_place : List Line → ℕ → ℕ
value_place ls i = size (lines_of (take i ls)) + length (get_or ls i checksum).label

unfoldable pub type_lines : List Line
type_lines = sub_type_length ∷ sub_format_id ∷ short_id ∷ time_and_event

pub record Distances : Type 0 where
  pub header-length : value_place head_lines 0 ≡ 20
  pub sub-format : value_place head_lines 1 ≡ 46
  pub generic-type : value_place head_lines 2 ≡ 316
  pub synch-type : value_place head_lines 3 ≡ 342
  pub time-standard : value_place head_lines 4 ≡ 366
  pub time-offset : value_place head_lines 5 ≡ 426
  pub event-synch : value_place head_lines 6 ≡ 461
  pub dependency-length : value_place head_lines 7 ≡ 527
  pub dependency-count : value_place (head_lines ++ dependency_count ∷ []) 8 ≡ 563
  pub dependency-serial : value_place (dependency_serial ∷ dependency_sub_format ∷ []) 0 ≡ 25
  pub dependency-sub-format : value_place (dependency_serial ∷ dependency_sub_format ∷ []) 1 ≡ 87
  pub content-length : value_place (content_length ∷ []) 0 ≡ 21
  pub content-line : size (lines_of (content_length ∷ [])) ≡ 34
  pub multi-length : value_place (multi_header_length ∷ type_count ∷ []) 0 ≡ 26
  pub type-count : value_place (multi_header_length ∷ type_count ∷ []) 1 ≡ 60
  pub multi-head : size (lines_of (multi_header_length ∷ type_count ∷ [])) ≡ 65
  pub type-length : value_place type_lines 0 ≡ 22
  pub type-sub-format : value_place type_lines 1 ≡ 48
  pub type-short-id : value_place type_lines 2 ≡ 324
  pub type-synch : value_place type_lines 3 ≡ 357
  pub type-standard : value_place type_lines 4 ≡ 381
  pub type-offset : value_place type_lines 5 ≡ 441
  pub type-event : value_place type_lines 6 ≡ 476
  pub type-bytes : size (lines_of type_lines) ≡ 518
  pub type-measures : size (lf ∷ lines_of (sub_format_id ∷ short_id ∷ time_and_event)) ≡ 484
  pub mini-id : length mini_label ≡ 10
  pub mini-data : size (fixed mini_label ∷ value (text 10) ∷ value i12 ∷ []) ≡ 32
  pub strategy : value_place (format_id ∷ separator_strategy ∷ []) 1 ≡ 58
  pub serial : value_place integrity_lines 0 ≡ 20
  pub recording-date : value_place integrity_lines 1 ≡ 80
  pub recording-agent : value_place integrity_lines 2 ≡ 111
  pub writing-date : value_place integrity_lines 3 ≡ 163
  pub writing-agent : value_place integrity_lines 4 ≡ 192
  pub checksum-digits : value_place (integrity_lines ++ checksum ∷ []) 5 ≡ 250
  pub integrity : size (lines_of (integrity_lines ++ checksum ∷ [])) ≡ 254

pub distances : Distances
unfolding lines value_place type_lines mini_label
distances =
    record {
      header-length = refl;
      sub-format = refl;
      generic-type = refl;
      synch-type = refl;
      time-standard = refl;
      time-offset = refl;
      event-synch = refl;
      dependency-length = refl;
      dependency-count = refl;
      dependency-serial = refl;
      dependency-sub-format = refl;
      content-length = refl;
      content-line = refl;
      multi-length = refl;
      type-count = refl;
      multi-head = refl;
      type-length = refl;
      type-sub-format = refl;
      type-short-id = refl;
      type-synch = refl;
      type-standard = refl;
      type-offset = refl;
      type-event = refl;
      type-bytes = refl;
      type-measures = refl;
      mini-id = refl;
      mini-data = refl;
      strategy = refl;
      serial = refl;
      recording-date = refl;
      recording-agent = refl;
      writing-date = refl;
      writing-agent = refl;
      checksum-digits = refl;
      integrity = refl;
    }
