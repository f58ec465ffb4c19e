-- Field kinds, the field rule, the table of lines, and the two runs over a stretch of fields: the reader's over bytes,
-- the writer's over values. Assumes nothing.
use Rattle.std.specs.Prelude.{ℕ, ◌+◌, Bool, true, cond, ◌&&◌, List, [], ◌∷◌, ◌++◌, leb, eqb, length, take, drop}
use Rattle.metafile.specs.Bytes.{bytes, ◌⊳◌, require, all, same, member}
use Rattle.metafile.specs.Fields.{is_count, count_value, is_text, is_offset}
use Rattle.metafile.specs.Days.{day_read, serial_read, day_fault}

-- ---- the listed words

abbrev pub LLC : List ℕ
LLC = bytes "LLC"

abbrev pub NUL : List ℕ
NUL = bytes "NUL"

abbrev pub BIN : List ℕ
BIN = bytes "BIN"

abbrev pub TXT : List ℕ
TXT = bytes "TXT"

abbrev pub GEN : List ℕ
GEN = bytes "GEN"

abbrev pub SPE : List ℕ
SPE = bytes "SPE"

abbrev pub UTC : List ℕ
UTC = bytes "UTC"

abbrev pub ALT : List ℕ
ALT = bytes "ALT"

abbrev pub SLV : List ℕ
SLV = bytes "SLV"

abbrev pub MAS : List ℕ
MAS = bytes "MAS"

-- ---- fields

-- what a value may be
pub data Kind : Type 0 where
  count : ℕ → ℕ → Kind  -- In that may have leading spaces: so many bytes, at most so much
  text : ℕ → Kind  -- An
  date : Kind
  offset : Kind
  serial : Kind
  word : List (List ℕ) → Kind  -- one of these listed words, of three bytes each
  strategy : Kind  -- LLC or NUL, I3 mark length
  stamp : List (List ℕ) → List (List ℕ) → Kind  -- a listed word, then 38 bytes: free after the first words, a serial number after the others
  free : ℕ → Kind  -- so many bytes of any value

-- a field of the file: a fixed text (a label, LF, mark), or a value
pub data Field : Type 0 where
  fixed : List ℕ → Field
  value : Kind → Field

-- "Lines, each label, field, LF"
pub record Line : Type 0 where
  pub label : List ℕ
  pub kind : Kind

-- ---- the field rule: "4 if the bytes end inside a field, else its own fault"

unfoldable pub field_fault : ℕ → (List ℕ → ℕ) → List ℕ → ℕ
field_fault n own s = cond (leb n (length s)) (own (take n s)) 4

-- "5 label, LF, mark or listed word differs", "6 field out of form or range"
unfoldable pub fixed_fault : List ℕ → List ℕ → ℕ
fixed_fault b v = require (same v b) 5

unfoldable pub count_fault : ℕ → List ℕ → ℕ
count_fault most v = require (is_count v && leb (count_value v) most) 6

unfoldable pub text_fault : List ℕ → ℕ
text_fault v = require (all is_text v) 6

unfoldable pub date_fault : List ℕ → ℕ
date_fault v = day_fault (day_read v)

unfoldable pub offset_fault : List ℕ → ℕ
offset_fault v = require (is_offset v) 6

unfoldable pub serial_fault : List ℕ → ℕ
serial_fault v = day_fault (serial_read v)

unfoldable pub word_fault : List (List ℕ) → List ℕ → ℕ
word_fault ws v = require (member v ws) 5

-- "The 38 bytes must be a serial number after ALT, SLV and MAS; elsewhere they are free"
unfoldable pub stamp_fault : List (List ℕ) → List ℕ → List ℕ → ℕ
stamp_fault serials w v = cond (member w serials) (serial_fault v) 0

unfoldable pub free_fault : List ℕ → ℕ
free_fault v = 0

unfoldable pub width : Kind → ℕ
width (count n most) = n
width (text n) = n
width date = 8
width offset = 16
width serial = 38
width (word ws) = 3
width strategy = 6
width (stamp frees serials) = 41
width (free n) = n

-- "a listed word and the 38 bytes after it are two" fields
unfoldable pub kind_fault : Kind → List ℕ → ℕ
kind_fault (count n most) s = field_fault n (count_fault most) s
kind_fault (text n) s = field_fault n text_fault s
kind_fault date s = field_fault 8 date_fault s
kind_fault offset s = field_fault 16 offset_fault s
kind_fault serial s = field_fault 38 serial_fault s
kind_fault (word ws) s = field_fault 3 (word_fault ws) s
kind_fault strategy s = field_fault 3 (word_fault (LLC ∷ NUL ∷ [])) s ⊳ field_fault 3 (count_fault 999) (drop 3 s)
kind_fault (stamp frees serials) s =
    field_fault 3 (word_fault (frees ++ serials)) s ⊳ field_fault 38 (stamp_fault serials (take 3 s)) (drop 3 s)
kind_fault (free n) s = field_fault n free_fault s

unfoldable pub field_width : Field → ℕ
field_width (fixed b) = length b
field_width (value k) = width k

unfoldable pub fault : Field → List ℕ → ℕ
fault (fixed b) s = field_fault (length b) (fixed_fault b) s
fault (value k) s = kind_fault k s

-- ---- the runs

unfoldable pub size : List Field → ℕ
size [] = 0
size (f ∷ fs) = field_width f + size fs

-- the reader's run: "Fields are read in file order", the first fault counts
unfoldable pub run : List Field → List ℕ → ℕ
run [] s = 0
run (f ∷ fs) s = fault f s ⊳ run fs (drop (field_width f) s)

-- the writer's run: a fixed text is put as it is, a value is the next one given
unfoldable pub first_of : List (List ℕ) → List ℕ
first_of [] = []
first_of (v ∷ vs) = v

unfoldable pub others_of : List (List ℕ) → List (List ℕ)
others_of [] = []
others_of (v ∷ vs) = vs

unfoldable pub put : Field → List (List ℕ) → List ℕ
put (fixed b) vs = b
put (value k) vs = first_of vs

unfoldable pub left : Field → List (List ℕ) → List (List ℕ)
left (fixed b) vs = vs
left (value k) vs = others_of vs

unfoldable pub write : List Field → List (List ℕ) → List ℕ
write [] vs = []
write (f ∷ fs) vs = put f vs ++ write fs (left f vs)

-- the writer's test of the values given: each fills its width, and the reader would take it
unfoldable pub formed : List Field → List (List ℕ) → Bool
formed [] vs = true
formed (f ∷ fs) vs = eqb (length (put f vs)) (field_width f) && eqb (fault f (put f vs)) 0 && formed fs (left f vs)

-- ---- the table of lines

unfoldable pub lf : Field
lf = fixed (10 ∷ [])

-- a line up to its LF
unfoldable pub opened : Line → List Field
opened l = fixed l.label ∷ value l.kind ∷ []

unfoldable pub lines_of : List Line → List Field
lines_of [] = []
lines_of (l ∷ ls) = opened l ++ lf ∷ lines_of ls

-- a number field that may hold whatever its digits say
unfoldable pub i12 : Kind
i12 = count 12 999999999999

unfoldable pub i4 : Kind
i4 = count 4 9999

unfoldable pub chunk_header_length : Line
chunk_header_length = record { label = bytes "Chunk_Header_Length="; kind = i12 }

unfoldable pub sub_format_id : Line
sub_format_id = record { label = bytes "SubFormat_ID="; kind = text 256 }

unfoldable pub generic_type : Line
generic_type = record { label = bytes "Generic_Type="; kind = word (BIN ∷ TXT ∷ []) }

unfoldable pub time_synch_type : Line
time_synch_type = record { label = bytes "Chunk_Time_Synch_Type="; kind = word (GEN ∷ SPE ∷ []) }

unfoldable pub time_standard : Line
time_standard =
    record { label = bytes "Chunk_Time_Standard="; kind = stamp (UTC ∷ NUL ∷ []) (ALT ∷ []) }

unfoldable pub time_offset : Line
time_offset = record { label = bytes "Chunk_Time_Offset="; kind = offset }

unfoldable pub event_synch : Line
event_synch =
    record { label = bytes "Chunk_Event_Synch="; kind = stamp (NUL ∷ []) (SLV ∷ MAS ∷ []) }

unfoldable pub dependency_length : Line
dependency_length = record { label = bytes "Chunk_Dependency_Length="; kind = i12 }

unfoldable pub dependency_count : Line
dependency_count = record { label = bytes "Chunk_Dependency_Count="; kind = i4 }

unfoldable pub dependency_serial : Line
dependency_serial = record { label = bytes "Dependency_Serial_Number="; kind = serial }

unfoldable pub dependency_sub_format : Line
dependency_sub_format = record { label = bytes "Dependency_SubFormatID="; kind = text 256 }

unfoldable pub content_length : Line
content_length = record { label = bytes "Chunk_Content_Length="; kind = i12 }

unfoldable pub multi_header_length : Line
multi_header_length = record { label = bytes "Multi_Chunk_Header_Length="; kind = i12 }

unfoldable pub type_count : Line
type_count = record { label = bytes "MiniChunk_Type_Count="; kind = i4 }

unfoldable pub sub_type_length : Line
sub_type_length = record { label = bytes "SubType_Header_Length="; kind = i12 }

unfoldable pub short_id : Line
short_id = record { label = bytes "SubFormat_Short_ID="; kind = text 10 }

unfoldable pub chunk_serial : Line
chunk_serial = record { label = bytes "Chunk_Serial_Number="; kind = serial }

unfoldable pub recording_date : Line
recording_date = record { label = bytes "Chunk_Recording_Date="; kind = date }

unfoldable pub recording_agent : Line
recording_agent = record { label = bytes "Chunk_Recording_Agent="; kind = text 32 }

unfoldable pub writing_date : Line
writing_date = record { label = bytes "Chunk_Writing_Date="; kind = date }

unfoldable pub writing_agent : Line
writing_agent = record { label = bytes "Chunk_Writing_Agent="; kind = text 32 }

unfoldable pub checksum : Line
checksum = record { label = bytes "Chunk_Integrity_Checksum="; kind = count 3 255 }

-- ""Format_ID=Ancillary Data Standard 1.00" LF": a label and no value
unfoldable pub format_id : Line
format_id = record { label = bytes "Format_ID=Ancillary Data Standard 1.00"; kind = text 0 }

unfoldable pub separator_strategy : Line
separator_strategy = record { label = bytes "Separator_Strategy="; kind = strategy }

-- "the four time and event lines"
unfoldable pub time_and_event : List Line
time_and_event = time_synch_type ∷ time_standard ∷ time_offset ∷ event_synch ∷ []

-- all lines, in a row
unfoldable pub table : List Line
table =
    chunk_header_length
    ∷ sub_format_id
    ∷ generic_type
    ∷ time_synch_type
    ∷ time_standard
    ∷ time_offset
    ∷ event_synch
    ∷ dependency_length
    ∷ dependency_count
    ∷ dependency_serial
    ∷ dependency_sub_format
    ∷ content_length
    ∷ multi_header_length
    ∷ type_count
    ∷ sub_type_length
    ∷ short_id
    ∷ chunk_serial
    ∷ recording_date
    ∷ recording_agent
    ∷ writing_date
    ∷ writing_agent
    ∷ checksum
    ∷ format_id
    ∷ separator_strategy
    ∷ []
