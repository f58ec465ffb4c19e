-- The smallest file for each of the numbers 1 to 10, and 11 for any file that is too long; and all that read then
-- gives: "rows so far, stop", the header's sum, the number, and the table, in which "those past the count are not
-- written". Assumes nothing.
use Prim.Native.Nat.{ℕ, ◌+◌, ◌^◌}
use mathlib.Core.Bool.{true, false}
use mathlib.Core.Path.{◌≡◌, refl}
use mathlib.Core.List.{List, [], ◌∷◌, ◌++◌}
use lib.Dec.{ltb}
use lib.IntN.{pos}
use lib.ListN.{length, replicate}
use Rattle.metafile.specs.declared.Row.{Row}
use Rattle.metafile.specs.Bytes.{bytes}
use Rattle.metafile.specs.Chunk.{by_count}
use Rattle.metafile.specs.Calls.{read}
use Rattle.examples.proofs.Texts.{title_text, header_llc, test_format, multi_format, head_text, plain_header, chunk_empty, chunk_other, multi_text, type_text, texts}

-- a row as it was lent
unfoldable pub lent_row : Row
lent_row =
    record {
      serial = replicate 38 7;
      place = 7;
      header = 7;
      contents = 7;
      bytes = 7;
      end = 7;
      dependencies = 7;
      offset = pos 7;
      multichunk = true;
      good = true;
      ending = 7;
    }

-- ---- "1 first 65 bytes don't match": they are one field, so a file with fewer bytes is 4

unfoldable pub file1 : List ℕ
file1 = bytes "Format_ID=Ancillary Data Standard 2.00\nSeparator_Strategy=LLC000\n"

pub length-1 : length file1 ≡ 65
unfolding file1
length-1 = refl

pub number-1 :
    read file1 (lent_row ∷ [])
    ≡ record { answer = record { count = 0; stop = 0; good = false; number = 1 }; table = lent_row ∷ [] }
unfolding texts lent_row file1
number-1 = refl

-- ---- "2 NUL000 (tape)": 65 bytes, as for 1

unfoldable pub file2 : List ℕ
file2 = title_text "NUL000"

pub length-2 : length file2 ≡ 65
unfolding texts file2
length-2 = refl

pub number-2 :
    read file2 (lent_row ∷ [])
    ≡ record { answer = record { count = 0; stop = 0; good = false; number = 2 }; table = lent_row ∷ [] }
unfolding texts lent_row file2
number-2 = refl

-- ---- "3 mark begins "MiniChunk="": 65 bytes and a mark of 10, the shortest that can

unfoldable pub file3 : List ℕ
file3 = title_text "NUL010" ++ bytes "MiniChunk="

pub length-3 : length file3 ≡ 75
unfolding texts file3
length-3 = refl

pub number-3 :
    read file3 (lent_row ∷ [])
    ≡ record { answer = record { count = 0; stop = 0; good = false; number = 3 }; table = lent_row ∷ [] }
unfolding texts lent_row file3
number-3 = refl

-- ---- "4 bytes end too soon": one byte, since no bytes read with 0 (metafile/proofs/NoBytes)

pub number-4 :
    read (bytes "F") (lent_row ∷ [])
    ≡ record { answer = record { count = 0; stop = 0; good = false; number = 4 }; table = lent_row ∷ [] }
unfolding texts lent_row
number-4 = refl

-- ---- "5 label .. differs": 65 bytes, no mark, and the 20 bytes of the first label

unfoldable pub file5 : List ℕ
file5 = title_text "LLC000" ++ bytes "Chunk_Series_Number="

pub length-5 : length file5 ≡ 85
unfolding texts file5
length-5 = refl

pub number-5 :
    read file5 (lent_row ∷ [])
    ≡ record { answer = record { count = 0; stop = 0; good = false; number = 5 }; table = lent_row ∷ [] }
unfolding texts lent_row file5
number-5 = refl

-- ---- "6 field out of form or range": after the first label the first value, 38 bytes. "The serial above is right ..;
-- ending 002: 6."

unfoldable pub file6 : List ℕ
file6 = title_text "LLC000" ++ bytes "Chunk_Serial_Number=#20240229123456789SURVEYDESK0100042002"

pub length-6 : length file6 ≡ 123
unfolding texts file6
length-6 = refl

pub number-6 :
    read file6 (lent_row ∷ [])
    ≡ record { answer = record { count = 0; stop = 0; good = false; number = 6 }; table = lent_row ∷ [] }
unfolding texts lent_row file6
number-6 = refl

-- ---- "7 length disagrees with what it measures": a header of 319 bytes, and the chunk's 567 bytes up to the last digit
-- of its dependency count. "A length is tested once the counts it rests on are read and before the LF after them": the
-- file ends before that LF, and yet the number isn't 4. The dependency length is counted from after its LF: 28, not 29.

unfoldable pub file7 : List ℕ
file7 = header_llc ++ head_text "000000000536" test_format "000000000028" "0000"

pub length-7 : length file7 ≡ 319 + 567
unfolding texts file7
length-7 = refl

pub number-7 :
    read file7 (lent_row ∷ [])
    ≡ record { answer = record { count = 0; stop = 319; good = true; number = 7 }; table = lent_row ∷ [] }
unfolding texts lent_row file7
number-7 = refl

-- with the right length the same 886 bytes are 4
pub number-7-right :
    read (header_llc ++ head_text "000000000536" test_format "000000000029" "0000") (lent_row ∷ [])
    ≡ record { answer = record { count = 0; stop = 319; good = true; number = 4 }; table = lent_row ∷ [] }
unfolding texts lent_row
number-7-right = refl

-- ---- "8 .. no mini-chunk": a header, a MultiChunk's 568 + 65 bytes, one type of 518, and the 10 bytes "Where the first
-- must stand". A short ID declared twice takes 334 bytes of a second type, so it is longer.

unfoldable pub file8 : List ℕ
file8 =
    header_llc
    ++ plain_header multi_format
    ++ multi_text "000000000545" "0001"
    ++ type_text "000000000484" test_format (bytes "DEPTH     ")
    ++ bytes "MaxiChunk="

pub length-8 : length file8 ≡ 319 + 568 + 65 + 518 + 10
unfolding texts file8
length-8 = refl

pub number-8 :
    read file8 (lent_row ∷ [])
    ≡ record { answer = record { count = 0; stop = 319; good = true; number = 8 }; table = lent_row ∷ [] }
unfolding texts lent_row file8
number-8 = refl

-- ---- "9 whole chunk, serial already in a row": a header and two of the smallest chunks, 856 bytes each. Two rows are
-- lent, the second is not written.

unfoldable pub empty_row : Row
empty_row =
    record {
      serial = bytes "#20240229123456789SURVEYDESK0100042001";
      place = 319;
      header = 568;
      contents = 921;
      bytes = 0;
      end = 1175;
      dependencies = 0;
      offset = pos 80350000000;
      multichunk = false;
      good = true;
      ending = by_count;
    }

unfoldable pub file9 : List ℕ
file9 = header_llc ++ chunk_empty ++ chunk_empty

pub length-9 : length file9 ≡ 319 + 856 + 856
unfolding texts file9
length-9 = refl

pub number-9 :
    read file9 (lent_row ∷ lent_row ∷ [])
    ≡ record { answer = record { count = 1; stop = 1175; good = true; number = 9 }; table = empty_row ∷ lent_row ∷ [] }
unfolding texts lent_row empty_row file9
number-9 = refl

-- "whole chunk, serial already in a row" is no 10, also where no row is left
pub number-9-full :
    read file9 (lent_row ∷ [])
    ≡ record { answer = record { count = 1; stop = 1175; good = true; number = 9 }; table = empty_row ∷ [] }
unfolding texts lent_row empty_row file9
number-9-full = refl

-- ---- "10 another whole chunk, its serial new, and no row left": a header and one chunk, and no row lent

unfoldable pub file10 : List ℕ
file10 = header_llc ++ chunk_empty

pub length-10 : length file10 ≡ 319 + 856
unfolding texts file10
length-10 = refl

pub number-10 :
    read file10 []
    ≡ record { answer = record { count = 0; stop = 319; good = true; number = 10 }; table = [] }
unfolding texts file10
number-10 = refl

-- "One row lent, two chunks: 1 row, 10."
pub number-10-full :
    read (header_llc ++ chunk_empty ++ chunk_other) (lent_row ∷ [])
    ≡ record { answer = record { count = 1; stop = 1175; good = true; number = 10 }; table = empty_row ∷ [] }
unfolding texts lent_row empty_row
number-10-full = refl

-- with one row it is read whole, though no row is left: "Clean means number 0 and stop at the file's end."
pub number-0 :
    read file10 (lent_row ∷ [])
    ≡ record { answer = record { count = 1; stop = 1175; good = true; number = 0 }; table = empty_row ∷ [] }
unfolding texts lent_row empty_row file10
number-0 = refl

-- ---- "11 a lent byte buffer over 2^30": "Read given 11 answers count 0, stop 0, header sum not good."

pub number-11 :
    (file : List ℕ) (table : List Row)
    → ltb (2 ^ 30) (length file) ≡ true
    → read file table ≡ record { answer = record { count = 0; stop = 0; good = false; number = 11 }; table = table }
unfolding texts
number-11 file table over = rw over refl
