-- Append: "Given: the file and its length in a longer lent buffer, the fields, rows named as parents, specific data,
-- contents, counted or open." Assumes nothing.
use Rattle.std.specs.Prelude.{ℕ, ◌+◌, Bool, true, false, cond, not, ◌&&◌, ◌||◌, List, [], ◌∷◌, ◌++◌, ltb, eqb, pos, length, take, drop, get_or, replicate}
use Rattle.metafile.specs.declared.Row.{Row}
use Rattle.metafile.specs.declared.Description.{Description}
use Rattle.metafile.specs.Bytes.{all, non_zero, same, member, find}
use Rattle.metafile.specs.Fields.{digits_of, padded, known}
use Rattle.metafile.specs.Lines.{BIN, Kind, count, text, date, offset, serial, word, strategy, stamp, free, lf, lines_of, write, formed, time_standard, event_synch, content_length}
use Rattle.metafile.specs.Closing.{Integrity, integrity_lines, integrity_values, closing_bytes}
use Rattle.metafile.specs.Header.{is_llc, mark_of}
use Rattle.metafile.specs.Chunk.{given_lines, head, dependency_fields, dependency_length_for, header_length_for, multi_name, sub_format}
use Rattle.metafile.specs.Reading.{reading, rows_of, serials_of, is_clean}
use Rattle.metafile.specs.Answers.{result, Test, refuse, over_limit, Outcome, placed, unless_refused}

-- beside the buffer and the file's length in it
pub record Given : Type 0 where
  pub description : Description
  pub parents : List ℕ  -- row numbers, from 0
  pub specific : List ℕ
  pub contents : List ℕ
  pub is_open : Bool

-- ---- the fields given

-- a text as it was given, to be padded: its first bytes, as many as it has
unfoldable pub sub_format_given : Description → List ℕ
sub_format_given d = padded 256 (take d.subformat.given d.subformat.bytes)

-- the words of a line after which a serial number stands
unfoldable pub serial_words : Kind → List (List ℕ)
serial_words (count n most) = []
serial_words (text n) = []
serial_words date = []
serial_words offset = []
serial_words serial = []
serial_words (word ws) = []
serial_words strategy = []
serial_words (stamp frees serials) = serials
serial_words (free n) = []

-- "elsewhere they are free, and the writer is given none and puts spaces"
unfoldable pub stamp_given : Kind → List ℕ → List ℕ → List ℕ
stamp_given k w v = w ++ cond (member w (serial_words k)) v (replicate 38 32)

unfoldable pub given_values : Description → List (List ℕ)
given_values d =
    sub_format_given d
    ∷ d.generic
    ∷ d.synch
    ∷ stamp_given time_standard.kind d.standard d.alternate
    ∷ d.offset
    ∷ stamp_given event_synch.kind d.event d.linked
    ∷ []

unfoldable pub integrity_given : Description → Integrity
integrity_given d =
    record {
      serial = d.serial;
      recording_date = d.recorded;
      recording_agent = take d.recorder.given d.recorder.bytes;
      writing_date = d.written;
      writing_agent = take d.writer.given d.writer.bytes;
    }

-- "6 .. append (there too a wrong listed word, an over-long text ..)": else the reader's own judgement of each field
unfoldable pub over_long : Description → Bool
over_long d = ltb 256 d.subformat.given || ltb 32 d.recorder.given || ltb 32 d.writer.given

unfoldable pub append_formed : Description → Bool
append_formed d =
    not (over_long d)
    && formed (lines_of given_lines) (given_values d)
    && formed (lines_of integrity_lines) (integrity_values (integrity_given d))

-- ---- parents

unfoldable pub no_row : Row
no_row =
    record {
      serial = replicate 38 0;
      place = 0;
      header = 0;
      contents = 0;
      bytes = 0;
      end = 0;
      dependencies = 0;
      offset = pos 0;
      multichunk = false;
      good = false;
      ending = 0;
    }

unfoldable pub row_no : List Row → ℕ → Row
row_no rows k = get_or rows k no_row

unfoldable pub sub_format_of : List ℕ → Row → List ℕ
sub_format_of file r = sub_format (drop r.place file)

-- "Each parent's serial and sub-format are copied from its chunk, in the order given."
unfoldable pub parent_values : List ℕ → List Row → List ℕ → List (List ℕ)
parent_values file rows [] = []
parent_values file rows (k ∷ ks) =
    (row_no rows k).serial ∷ sub_format_of file (row_no rows k) ∷ parent_values file rows ks

-- "13 row not in the reading; parents repeated or over 16"
unfoldable pub all_below : ℕ → List ℕ → Bool
all_below n [] = true
all_below n (k ∷ ks) = ltb k n && all_below n ks

unfoldable pub is_in : ℕ → List ℕ → Bool
is_in k [] = false
is_in k (x ∷ xs) = eqb k x || is_in k xs

unfoldable pub repeated : List ℕ → Bool
repeated [] = false
repeated (k ∷ ks) = is_in k ks || repeated ks

unfoldable pub parents_wrong : List Row → List ℕ → Bool
parents_wrong rows ks = not (all_below (length rows) ks) || repeated ks || ltb 16 (length ks)

-- ---- "Three writes, each on disk before the next: header with content length line; data; closing."

unfoldable pub head_values : Given → List (List ℕ)
head_values g =
    digits_of 12 (header_length_for (length g.parents) (length g.specific))
    ∷ given_values g.description
    ++ digits_of 12 (dependency_length_for (length g.parents))
    ∷ digits_of 4 (length g.parents)
    ∷ []

-- "The count is the data's length plus 1"; "0 means open"
unfoldable pub content_count_for : Bool → List ℕ → ℕ
content_count_for is_open v = cond is_open 0 (length v + 1)

unfoldable pub first_write : List ℕ → Given → List ℕ
first_write old g =
    write head (head_values g)
    ++ write (lf ∷ dependency_fields (length g.parents)) (parent_values old (rows_of old) g.parents)
    ++ g.specific
    ++ write (lines_of (content_length ∷ [])) (digits_of 12 (content_count_for g.is_open g.contents) ∷ [])

unfoldable pub third_write : List ℕ → Given → List ℕ
third_write old g = closing_bytes (mark_of old) (integrity_given g.description) (first_write old g ++ g.contents)

unfoldable pub new_chunk : List ℕ → Given → List ℕ
new_chunk old g = first_write old g ++ g.contents ++ third_write old g

unfoldable pub first_end : List ℕ → Given → ℕ
first_end old g = length old + length (first_write old g)

unfoldable pub second_end : List ℕ → Given → ℕ
second_end old g = first_end old g + length g.contents

unfoldable pub third_end : List ℕ → Given → ℕ
third_end old g = second_end old g + length (third_write old g)

-- ---- the tests

-- "16 open under LLC or for BIN, or open with the mark first found in data + mark before the data's end"
unfoldable pub open_wrong : List ℕ → Given → Bool
open_wrong old g =
    g.is_open
    && (is_llc old
    || same g.description.generic BIN
    || ltb (find (mark_of old) (g.contents ++ mark_of old)) (length g.contents))

-- "11 a lent byte buffer over 2^30, or length over the buffer's"
unfoldable pub append_over_limit : List ℕ → ℕ → Given → Bool
append_over_limit buffer len g =
    over_limit
    (length buffer
    ∷ length g.specific
    ∷ length g.contents
    ∷ g.description.subformat.given
    ∷ g.description.recorder.given
    ∷ g.description.writer.given
    ∷ [])
    || ltb (length buffer) len

-- "Append tests 11, 12, 6, 17, 13, 9, 15, 16, 18". The file is the first len bytes of the buffer.
unfoldable pub append_tests : List ℕ → ℕ → Given → List Test
append_tests buffer len g =
    let old : List ℕ = take len buffer in
    refuse 11 (append_over_limit buffer len g)
    ∷ refuse 12 (not (is_clean old (reading old)))
    ∷ refuse 6 (not (append_formed g.description))
    ∷ refuse 17 (same (sub_format_given g.description) multi_name)
    ∷ refuse 13 (parents_wrong (rows_of old) g.parents)
    ∷ refuse 9 (known g.description.serial (serials_of (rows_of old)))
    ∷ refuse 15 (not (all non_zero (mark_of old)))
    ∷ refuse 16 (open_wrong old g)
    ∷ refuse 18 (ltb (length buffer) (third_end old g))
    ∷ []

-- what append answers and leaves in the buffer
unfoldable pub append : List ℕ → ℕ → Given → Outcome
append buffer len g =
    let old : List ℕ = take len buffer in
    unless_refused (append_tests buffer len g) buffer
    (record {
      answer = result (first_end old g ∷ second_end old g ∷ third_end old g ∷ []);
      buffer = placed len (new_chunk old g) buffer;
    })
