-- Refused appends and begins that the checker computes: ""Number only" leaves every buffer untouched, as does 1 to 9
-- from begin or append." First an append for each number, with all that it gives; then the order of the tests.
-- Assumes nothing.
use Prim.Native.Nat.{ℕ}
use Prim.Native.String.{String}
use mathlib.Core.Bool.{Bool, true, false}
use mathlib.Core.Path.{◌≡◌, refl}
use mathlib.Core.List.{List, [], ◌∷◌, ◌++◌}
use lib.ListN.{replicate}
use Rattle.metafile.specs.declared.Text256.{Text256}
use Rattle.metafile.specs.declared.Text32.{Text32}
use Rattle.metafile.specs.declared.Description.{Description}
use Rattle.metafile.specs.Bytes.{bytes}
use Rattle.metafile.specs.Reading.{reading}
use Rattle.metafile.specs.Answers.{refused}
use Rattle.metafile.specs.Begin.{begin}
use Rattle.metafile.specs.Append.{Given, no_row, parents_wrong, append}
use Rattle.metafile.proofs.Samples.{text256, text32, to_begin, to_append}
use Rattle.examples.proofs.Texts.{serial7, serial42, serial43, integrity_text, title_text, header_llc, header_abab, test_format, plain_header, content_text, chunk_abc, texts}

-- a chunk to append with this serial number, sub-format, generic type and recording agent
unfoldable pub description_of : String → Text256 → List ℕ → Text32 → Description
description_of serial sub_format generic recorder =
    record {
      subformat = sub_format;
      generic = generic;
      synch = bytes "GEN";
      standard = bytes "UTC";
      alternate = replicate 38 32;
      offset = bytes "+0000      8.035";
      event = bytes "NUL";
      linked = replicate 38 32;
      serial = bytes serial;
      recorded = bytes "20240229";
      recorder = recorder;
      written = bytes "20240301";
      writer = text32 (bytes "DESK");
    }

unfoldable pub given_of : Description → List ℕ → Bool → Given
given_of description parents is_open =
    record { description = description; parents = parents; specific = []; contents = bytes "abc"; is_open = is_open }

-- "an over-long text": 33 bytes were given for A32
unfoldable pub over_long_agent : Text32
over_long_agent = record { bytes = replicate 32 65; given = 33 }

unfoldable pub agent : Text32
agent = text32 (bytes "RECORDER")

unfoldable pub test_text : Text256
test_text = text256 (bytes "ADS\\DATA\\TEST")

unfoldable pub multi_chunk_text : Text256
multi_chunk_text = text256 (bytes "ADS\\SYS\\MultiChunk")

-- a whole header whose mark is one zero byte, 321 bytes
unfoldable pub header_zero : List ℕ
header_zero = title_text "NUL001" ++ (0 ∷ []) ++ integrity_text serial7 "098" ++ (0 ∷ [])

-- ---- one refused append for each number

-- "11 .. length over the buffer's"
pub refused-11 :
    append header_llc 320 (to_append (bytes serial42) (bytes "abc") false)
    ≡ record { answer = refused 11; buffer = header_llc }
unfolding texts
refused-11 = refl

-- "12 append: file not clean": one byte behind the header
pub refused-12 :
    append (header_llc ++ replicate 1000 7) 320 (to_append (bytes serial42) (bytes "abc") false)
    ≡ record { answer = refused 12; buffer = header_llc ++ replicate 1000 7 }
unfolding texts
refused-12 = refl

-- "6 field out of form or range; also begin, append (there too a wrong listed word, an over-long text ..)"
pub refused-6 :
    append (header_llc ++ replicate 1000 7) 319 (given_of (description_of serial42 test_text (bytes "TXT") over_long_agent) [] false)
    ≡ record { answer = refused 6; buffer = header_llc ++ replicate 1000 7 }
unfolding texts description_of given_of over_long_agent test_text
refused-6 = refl

pub refused-6-word :
    append (header_llc ++ replicate 1000 7) 319 (given_of (description_of serial42 test_text (bytes "TEX") agent) [] false)
    ≡ record { answer = refused 6; buffer = header_llc ++ replicate 1000 7 }
unfolding texts description_of given_of agent test_text
refused-6-word = refl

-- "17 append of a MultiChunk"
pub refused-17 :
    append (header_llc ++ replicate 1000 7) 319 (given_of (description_of serial42 multi_chunk_text (bytes "TXT") agent) [] false)
    ≡ record { answer = refused 17; buffer = header_llc ++ replicate 1000 7 }
unfolding texts description_of given_of agent multi_chunk_text
refused-17 = refl

-- "13 row not in the reading; parents repeated or over 16": the file has no row 0; it has, but it is named twice
pub refused-13 :
    append (header_llc ++ replicate 1300 7) 319 (given_of (description_of serial42 test_text (bytes "TXT") agent) (0 ∷ []) false)
    ≡ record { answer = refused 13; buffer = header_llc ++ replicate 1300 7 }
unfolding texts description_of given_of agent test_text
refused-13 = refl

pub refused-13-twice :
    append (header_llc ++ chunk_abc ++ replicate 2000 7) 1178 (given_of (description_of serial43 test_text (bytes "TXT") agent) (0 ∷ 0 ∷ []) false)
    ≡ record { answer = refused 13; buffer = header_llc ++ chunk_abc ++ replicate 2000 7 }
unfolding texts description_of given_of agent test_text
refused-13-twice = refl

-- 16 parents may be named, 17 not, though all are in the reading; this is append's own test of them
pub parents-16 :
    parents_wrong (replicate 17 no_row) (0 ∷ 1 ∷ 2 ∷ 3 ∷ 4 ∷ 5 ∷ 6 ∷ 7 ∷ 8 ∷ 9 ∷ 10 ∷ 11 ∷ 12 ∷ 13 ∷ 14 ∷ 15 ∷ []) ≡ false
unfolding texts
parents-16 = refl

pub parents-17 :
    parents_wrong (replicate 17 no_row) (0 ∷ 1 ∷ 2 ∷ 3 ∷ 4 ∷ 5 ∷ 6 ∷ 7 ∷ 8 ∷ 9 ∷ 10 ∷ 11 ∷ 12 ∷ 13 ∷ 14 ∷ 15 ∷ 16 ∷ []) ≡ true
unfolding texts
parents-17 = refl

-- "9 whole chunk, serial already in a row; also append"
pub refused-9 :
    append (header_llc ++ chunk_abc ++ replicate 1000 7) 1178 (to_append (bytes serial42) (bytes "abc") false)
    ≡ record { answer = refused 9; buffer = header_llc ++ chunk_abc ++ replicate 1000 7 }
unfolding texts
refused-9 = refl

-- "The mark is that many bytes of any value."; "15 begin, append: mark has a zero byte"
pub zero-mark : reading header_zero ≡ record { rows = []; stop = 321; good = true; number = 0 }
unfolding texts header_zero
zero-mark = refl

pub refused-15 :
    append (header_zero ++ replicate 1000 7) 321 (to_append (bytes serial42) (bytes "abc") false)
    ≡ record { answer = refused 15; buffer = header_zero ++ replicate 1000 7 }
unfolding texts header_zero
refused-15 = refl

-- "16 open under LLC or for BIN, or open with the mark first found in data + mark before the data's end"
pub refused-16-LLC :
    append (header_llc ++ replicate 1000 7) 319 (to_append (bytes serial42) (bytes "abc") true)
    ≡ record { answer = refused 16; buffer = header_llc ++ replicate 1000 7 }
unfolding texts
refused-16-LLC = refl

pub refused-16-BIN :
    append (header_abab ++ replicate 1000 7) 327 (given_of (description_of serial42 test_text (bytes "BIN") agent) [] true)
    ≡ record { answer = refused 16; buffer = header_abab ++ replicate 1000 7 }
unfolding texts description_of given_of agent test_text
refused-16-BIN = refl

-- "QAB gets 16"
pub refused-16-mark :
    append (header_abab ++ replicate 1000 7) 327 (to_append (bytes serial42) (bytes "QAB") true)
    ≡ record { answer = refused 16; buffer = header_abab ++ replicate 1000 7 }
unfolding texts
refused-16-mark = refl

-- "18 lent buffer too short for the result": one byte short of 1,178
pub refused-18 :
    append (header_llc ++ replicate 858 7) 319 (to_append (bytes serial42) (bytes "abc") false)
    ≡ record { answer = refused 18; buffer = header_llc ++ replicate 858 7 }
unfolding texts
refused-18 = refl

-- ---- "Append tests 11, 12, 6, 17, 13, 9, 15, 16, 18": each of these is wrong for its number and for all that follow

-- one chunk under the zero mark, and a byte behind it: 1,179 and 1 bytes
unfoldable pub buffer_zero : List ℕ
buffer_zero =
    header_zero
    ++ plain_header test_format
    ++ content_text "000000000001"
    ++ (0 ∷ [])
    ++ integrity_text serial42 "081"
    ++ (0 ∷ 7 ∷ [])

unfoldable pub given6 : Given
given6 = given_of (description_of serial42 multi_chunk_text (bytes "BIN") over_long_agent) (5 ∷ []) true

unfoldable pub given17 : Given
given17 = given_of (description_of serial42 multi_chunk_text (bytes "BIN") agent) (5 ∷ []) true

unfoldable pub given13 : Given
given13 = given_of (description_of serial42 test_text (bytes "BIN") agent) (5 ∷ []) true

unfoldable pub given9 : Given
given9 = given_of (description_of serial42 test_text (bytes "BIN") agent) [] true

unfoldable pub given18 : Given
given18 = given_of (description_of serial42 test_text (bytes "TXT") agent) [] true

pub append-order :
    (append buffer_zero 1181 given6).answer
    ∷ (append buffer_zero 1180 given6).answer
    ∷ (append buffer_zero 1179 given6).answer
    ∷ (append buffer_zero 1179 given17).answer
    ∷ (append buffer_zero 1179 given13).answer
    ∷ (append buffer_zero 1179 given9).answer
    ∷ (append header_zero 321 given9).answer
    ∷ (append header_abab 327 given9).answer
    ∷ (append header_abab 327 given18).answer
    ∷ []
    ≡ refused 11
    ∷ refused 12
    ∷ refused 6
    ∷ refused 17
    ∷ refused 13
    ∷ refused 9
    ∷ refused 15
    ∷ refused 16
    ∷ refused 18
    ∷ []
unfolding texts description_of given_of over_long_agent agent test_text multi_chunk_text header_zero buffer_zero given6 given17 given13 given9 given18
append-order = refl

-- ---- "begin 11, 6, 2, 3, 15, 18": each of these is wrong for its number and for all that follow, but that an empty mark
-- can't be wrong for 3 and 15. 11 takes more than 2^30 bytes and isn't tried.

-- a mark of 1,000 bytes, "MiniChunk=" and zero bytes: "a mark over 999"
unfoldable pub long_mark : List ℕ
long_mark = bytes "MiniChunk=" ++ replicate 990 0

pub begin-order :
    begin (to_begin (bytes "NUL") long_mark) (7 ∷ [])
    ∷ begin (to_begin (bytes "NUL") []) (7 ∷ [])
    ∷ begin (to_begin (bytes "NUL") (bytes "MiniChunk=" ++ 0 ∷ [])) (7 ∷ [])
    ∷ begin (to_begin (bytes "NUL") (65 ∷ 0 ∷ [])) (7 ∷ [])
    ∷ begin (to_begin (bytes "NUL") (65 ∷ 66 ∷ [])) (replicate 322 7)
    ∷ []
    ≡ record { answer = refused 6; buffer = 7 ∷ [] }
    ∷ record { answer = refused 2; buffer = 7 ∷ [] }
    ∷ record { answer = refused 3; buffer = 7 ∷ [] }
    ∷ record { answer = refused 15; buffer = 7 ∷ [] }
    ∷ record { answer = refused 18; buffer = replicate 322 7 }
    ∷ []
unfolding texts long_mark
begin-order = refl
