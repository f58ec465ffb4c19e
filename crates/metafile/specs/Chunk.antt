-- One chunk, read from its own place: s is the file from there on, m the mark. Places and lengths are counted from
-- there, so that a chunk reads the same wherever it stands. Assumes nothing.
use Rattle.std.specs.Prelude.{ℕ, zero, suc, ◌+◌, ◌-◌, ◌*◌, Bool, true, false, cond, not, ◌&&◌, ◌||◌, List, [], ◌∷◌, ◌++◌, leb, eqb, ℤ, pos, drop}
use Rattle.metafile.specs.declared.Row.{Row}
use Rattle.metafile.specs.Bytes.{bytes, part, ◌⊳◌, require, is_zero, same, find}
use Rattle.metafile.specs.Fields.{count_value, padded, offset_value}
use Rattle.metafile.specs.Lines.{SPE, NUL, free, Field, value, Line, lf, opened, lines_of, run, chunk_header_length, sub_format_id, generic_type, time_and_event, dependency_length, dependency_count, dependency_serial, dependency_sub_format, content_length}
use Rattle.metafile.specs.Closing.{closing, closing_end, closing_serial, sum_good}
use Rattle.metafile.specs.Multi.{multi_fault, multi_bytes}

-- ---- the header, up to the digits of the dependency count

-- the lines whose values a writer is given
unfoldable pub given_lines : List Line
given_lines = sub_format_id ∷ generic_type ∷ time_and_event

unfoldable pub head_lines : List Line
head_lines = chunk_header_length ∷ given_lines ++ dependency_length ∷ []

unfoldable pub head : List Field
head = lines_of head_lines ++ opened dependency_count

unfoldable pub header_length : List ℕ → ℕ
header_length s = count_value (part 20 12 s)

unfoldable pub sub_format : List ℕ → List ℕ
sub_format s = part 46 256 s

unfoldable pub generic : List ℕ → List ℕ
generic s = part 316 3 s

unfoldable pub synch_type : List ℕ → List ℕ
synch_type s = part 342 3 s

unfoldable pub standard : List ℕ → List ℕ
standard s = part 366 3 s

unfoldable pub offset_bytes : List ℕ → List ℕ
offset_bytes s = part 426 16 s

unfoldable pub dependency_bytes : List ℕ → ℕ
dependency_bytes s = count_value (part 527 12 s)

unfoldable pub dependencies : List ℕ → ℕ
dependencies s = count_value (part 563 4 s)

-- "If, and only if, SubFormat_ID is ADS\SYS\MultiChunk"
unfoldable pub multi_name : List ℕ
multi_name = padded 256 (bytes "ADS\\SYS\\MultiChunk")

unfoldable pub is_multi : List ℕ → Bool
is_multi s = same (sub_format s) multi_name

-- ---- "A length I12 counts from just after its last digit, its own LF included." "With n dependencies the dependency
-- length is 29 + 344 × n and the header length 536 + 344 × n + s; the header takes 568 + 344 × n + s bytes."

unfoldable pub dependency_length_for : ℕ → ℕ
dependency_length_for n = 29 + 344 * n

unfoldable pub header_length_for : ℕ → ℕ → ℕ
header_length_for n s = 536 + 344 * n + s

unfoldable pub header_bytes_for : ℕ → ℕ → ℕ
header_bytes_for n s = 568 + 344 * n + s

-- "Specific data, s free bytes (none for a MultiChunk: 7), follow."
unfoldable pub specific : List ℕ → ℕ
specific s = header_length s - header_length_for (dependencies s) 0

-- "the dependency length before the header's"
unfoldable pub lengths_fault : List ℕ → ℕ
lengths_fault s =
    require (eqb (dependency_bytes s) (dependency_length_for (dependencies s))) 7
    ⊳ require (leb (header_length_for (dependencies s) 0) (header_length s)) 7
    ⊳ require (not (is_multi s) || is_zero (specific s)) 7

-- ---- "for each, Dependency_Serial_Number= serial and Dependency_SubFormatID= A256"

unfoldable pub dependency_fields : ℕ → List Field
dependency_fields zero = []
dependency_fields (suc n) = lines_of (dependency_serial ∷ dependency_sub_format ∷ []) ++ dependency_fields n

-- dependency j, from 0
unfoldable pub dependency_serial_of : ℕ → List ℕ → List ℕ
dependency_serial_of j s = part (568 + 344 * j + 25) 38 s

unfoldable pub dependency_sub_format_of : ℕ → List ℕ → List ℕ
dependency_sub_format_of j s = part (568 + 344 * j + 87) 256 s

unfoldable pub specific_place : List ℕ → ℕ
specific_place s = header_bytes_for (dependencies s) 0

unfoldable pub header_bytes : List ℕ → ℕ
header_bytes s = header_bytes_for (dependencies s) (specific s)

-- the header's first fault: lengths are tested before the LF of the dependency count
unfoldable pub chunk_header_fault : List ℕ → ℕ
chunk_header_fault s =
    run head s
    ⊳ lengths_fault s
    ⊳ run (lf ∷ dependency_fields (dependencies s)) (drop 567 s)
    ⊳ run (value (free (specific s)) ∷ []) (drop (specific_place s) s)

-- ---- "Contents: "Chunk_Content_Length=", I12, LF, data." r is what follows the header

unfoldable pub content_count : List ℕ → ℕ
content_count r = count_value (part 21 12 r)

-- "Under NUL 0 means open: the data end at the first place where the mark occurs." "Otherwise the count rules":
-- "The count is the data's length plus 1."
unfoldable pub data_bytes : List ℕ → ℕ → List ℕ → ℕ
data_bytes m zero rest = find m rest
data_bytes m (suc n) rest = n

unfoldable pub plain_bytes : List ℕ → List ℕ → ℕ
plain_bytes m r = data_bytes m (content_count r) (drop 34 r)

-- "Under LLC 0 is refused (7)."
unfoldable pub plain_fault : Bool → List ℕ → List ℕ → ℕ
plain_fault llc m r =
    run (opened content_length) r
    ⊳ require (not (llc && is_zero (content_count r))) 7
    ⊳ run (lf ∷ value (free (plain_bytes m r)) ∷ []) (drop 33 r)

-- contents of either sort, those of a MultiChunk (true) or plain ones: the first fault, where they begin, their bytes
unfoldable pub contents_fault : Bool → Bool → List ℕ → List ℕ → ℕ
contents_fault true llc m r = multi_fault r
contents_fault false llc m r = plain_fault llc m r

-- "contents place (after the content length line; for a MultiChunk, its first line)"
unfoldable pub contents_from : Bool → ℕ
contents_from true = 0
contents_from false = 34

unfoldable pub contents_long : Bool → List ℕ → List ℕ → ℕ
contents_long true m r = multi_bytes r
contents_long false m r = plain_bytes m r

unfoldable pub contents_place : List ℕ → ℕ
contents_place s = header_bytes s + contents_from (is_multi s)

unfoldable pub contents_bytes : List ℕ → List ℕ → ℕ
contents_bytes m s = contents_long (is_multi s) m (drop (header_bytes s) s)

-- ---- "Closing: mark, integrity data, mark."

unfoldable pub closing_place : List ℕ → List ℕ → ℕ
closing_place m s = contents_place s + contents_bytes m s

unfoldable pub chunk_end : List ℕ → List ℕ → ℕ
chunk_end m s = closing_end (closing_place m s) m

unfoldable pub serial_of : List ℕ → List ℕ → List ℕ
serial_of m s = closing_serial (closing_place m s) m s

-- the first fault of the chunk; 0: it is whole, closing mark included
unfoldable pub chunk_fault : Bool → List ℕ → List ℕ → ℕ
chunk_fault llc m s =
    chunk_header_fault s
    ⊳ contents_fault (is_multi s) llc m (drop (header_bytes s) s)
    ⊳ run (closing m) (drop (closing_place m s) s)

-- ---- how the end was found

-- "The row says it: counted, found, or by mini-chunks"
abbrev pub by_count : ℕ
by_count = 0

abbrev pub by_mark : ℕ
by_mark = 1

abbrev pub by_mini_chunks : ℕ
by_mini_chunks = 2

-- of a MultiChunk (true), which has no content length, or of another chunk with this content length: "Under NUL 0 means
-- open .. Otherwise the count rules"
unfoldable pub ending_of : Bool → ℕ → ℕ
ending_of true n = by_mini_chunks
ending_of false zero = by_mark
ending_of false (suc n) = by_count

-- of the chunk s, whose content length stands behind its header
unfoldable pub chunk_ending : List ℕ → ℕ
chunk_ending s = ending_of (is_multi s) (content_count (drop (header_bytes s) s))

-- ---- the row

-- "offset (0 under SPE or NUL standard)"
unfoldable pub offset_under : List ℕ → List ℕ → List ℕ → ℤ
offset_under synch std v = cond (same synch SPE || same std NUL) (pos 0) (offset_value v)

-- "A row holds: serial, place, header bytes, contents place .., contents bytes, end, dependency count, offset ..,
-- MultiChunk or not, sum good or not", and how the end was found. The chunk stands at the place p of the file.
unfoldable pub row_at : List ℕ → ℕ → List ℕ → Row
row_at m p s =
    record {
      serial = serial_of m s;
      place = p;
      header = header_bytes s;
      contents = p + contents_place s;
      bytes = contents_bytes m s;
      end = p + chunk_end m s;
      dependencies = dependencies s;
      offset = offset_under (synch_type s) (standard s) (offset_bytes s);
      multichunk = is_multi s;
      good = sum_good (closing_place m s) m s;
      ending = chunk_ending s;
    }
