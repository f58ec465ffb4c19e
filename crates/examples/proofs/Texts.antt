-- The texts of files as the paper has them, in pieces and line by line, without the definitions that write. All have
-- the same dates and agents; lengths and sums were worked out apart. Assumes nothing.
use Prim.Native.Nat.{ℕ}
use Prim.Native.String.{String}
use mathlib.Core.List.{List, ◌++◌}
use lib.ListN.{replicate}
use Rattle.metafile.specs.Bytes.{bytes}
use Rattle.metafile.proofs.Computed.{computed}
use Rattle.metafile.proofs.Samples.{paper_serial, file_serial, text256, text32, to_begin, described, to_append, lent, begun_llc, begun_abab}

unfoldable pub spaces : ℕ → List ℕ
spaces n = replicate n 32

-- ---- serial numbers: the header's, the one of the paper's listing, two others

unfoldable pub serial7 : String
serial7 = "#20240229123456789SURVEYDESK0100007002"

unfoldable pub serial42 : String
serial42 = "#20240229123456789SURVEYDESK0100042001"

unfoldable pub serial43 : String
serial43 = "#20240229123456789SURVEYDESK0100043002"

unfoldable pub serial44 : String
serial44 = "#20240229123456789SURVEYDESK0100044003"

-- ---- "Integrity data, 254 bytes": serial number and sum are given

unfoldable pub integrity_text : String → String → List ℕ
integrity_text serial sum =
    bytes "Chunk_Serial_Number="
    ++ bytes serial
    ++ bytes "\nChunk_Recording_Date=20240229\nChunk_Recording_Agent=RECORDER"
    ++ spaces 24
    ++ bytes "\nChunk_Writing_Date=20240301\nChunk_Writing_Agent=DESK"
    ++ spaces 28
    ++ bytes "\nChunk_Integrity_Checksum="
    ++ bytes sum
    ++ bytes "\n"

-- ---- "File header"

-- the first 65 bytes: strategy and mark length are given
unfoldable pub title_text : String → List ℕ
title_text strategy =
    bytes "Format_ID=Ancillary Data Standard 1.00\nSeparator_Strategy="
    ++ bytes strategy
    ++ bytes "\n"

-- a whole header under LLC with no mark, 319 bytes
unfoldable pub header_llc : List ℕ
header_llc = title_text "LLC000" ++ integrity_text serial7 "077"

-- and one under NUL with the mark ABAB, 327 bytes
unfoldable pub header_abab : List ℕ
header_abab = title_text "NUL004" ++ bytes "ABAB" ++ integrity_text serial7 "107" ++ bytes "ABAB"

-- ---- "Chunk"

unfoldable pub test_format : List ℕ
test_format = bytes "ADS\\DATA\\TEST" ++ spaces 243

unfoldable pub other_format : List ℕ
other_format = bytes "ADS\\DATA\\OTHER" ++ spaces 242

unfoldable pub multi_format : List ℕ
multi_format = bytes "ADS\\SYS\\MultiChunk" ++ spaces 238

-- the four time and event lines, 183 bytes: synch type, standard and event with their 38 bytes, and offset are given
unfoldable pub times_text : String → List ℕ → String → List ℕ → List ℕ
times_text synch standard offset event =
    bytes "Chunk_Time_Synch_Type="
    ++ bytes synch
    ++ bytes "\nChunk_Time_Standard="
    ++ standard
    ++ bytes "\nChunk_Time_Offset="
    ++ bytes offset
    ++ bytes "\nChunk_Event_Synch="
    ++ event
    ++ bytes "\n"

unfoldable pub times_utc : List ℕ
times_utc = times_text "GEN" (bytes "UTC" ++ spaces 38) "+0000      8.035" (bytes "NUL" ++ spaces 38)

-- a chunk's header up to the last digit of its dependency count, 567 bytes: header length, sub-format, time and event
-- lines, dependency length and dependency count are given
unfoldable pub head_with : List ℕ → String → List ℕ → String → String → List ℕ
head_with times header_length sub_format dependency_length count =
    bytes "Chunk_Header_Length="
    ++ bytes header_length
    ++ bytes "\nSubFormat_ID="
    ++ sub_format
    ++ bytes "\nGeneric_Type=TXT\n"
    ++ times
    ++ bytes "Chunk_Dependency_Length="
    ++ bytes dependency_length
    ++ bytes "\nChunk_Dependency_Count="
    ++ bytes count

unfoldable pub head_text : String → List ℕ → String → String → List ℕ
head_text = head_with times_utc

-- a header with no dependency and no specific data, 568 bytes
unfoldable pub plain_header : List ℕ → List ℕ
plain_header sub_format = head_text "000000000536" sub_format "000000000029" "0000" ++ bytes "\n"

-- one dependency, 344 bytes
unfoldable pub dependency_text : String → List ℕ → List ℕ
dependency_text serial sub_format =
    bytes "Dependency_Serial_Number="
    ++ bytes serial
    ++ bytes "\nDependency_SubFormatID="
    ++ sub_format
    ++ bytes "\n"

-- the line before plain data, 34 bytes: the count is given
unfoldable pub content_text : String → List ℕ
content_text count = bytes "Chunk_Content_Length=" ++ bytes count ++ bytes "\n"

-- ---- whole chunks under LLC000

-- the chunk of the paper's listing, 859 bytes
unfoldable pub chunk_abc : List ℕ
chunk_abc = plain_header test_format ++ content_text "000000000004" ++ bytes "abc" ++ integrity_text serial42 "122"

-- the same with empty contents, 856 bytes: the smallest chunk
unfoldable pub chunk_empty : List ℕ
chunk_empty = plain_header test_format ++ content_text "000000000001" ++ integrity_text serial42 "081"

-- another one, of another sub-format and serial number
unfoldable pub chunk_other : List ℕ
chunk_other = plain_header other_format ++ content_text "000000000001" ++ integrity_text serial43 "117"

-- ---- the contents of a MultiChunk

-- its first two lines, 65 bytes: header length and type count are given
unfoldable pub multi_text : String → String → List ℕ
multi_text multi_length count =
    bytes "Multi_Chunk_Header_Length="
    ++ bytes multi_length
    ++ bytes "\nMiniChunk_Type_Count="
    ++ bytes count
    ++ bytes "\n"

-- one type up to its specific data, 518 bytes: header length, sub-format and short ID are given
unfoldable pub type_text : String → List ℕ → List ℕ → List ℕ
type_text type_length sub_format short_id =
    bytes "SubType_Header_Length="
    ++ bytes type_length
    ++ bytes "\nSubFormat_ID="
    ++ sub_format
    ++ bytes "\nSubFormat_Short_ID="
    ++ short_id
    ++ bytes "\n"
    ++ times_utc

-- `unfolding texts` opens these texts, the given values and every definition of metafile
unfoldable pub texts : Unit {0}
unfolding computed paper_serial file_serial text256 text32 to_begin described to_append lent begun_llc begun_abab spaces serial7 serial42 serial43 serial44 integrity_text title_text header_llc header_abab test_format other_format multi_format times_text times_utc head_with head_text plain_header dependency_text content_text chunk_abc chunk_empty chunk_other multi_text type_text
texts = tt
