-- The definitions of reading tried on whole files: the file of the paper's listing, written out as text, read, listed
-- and written; contents; parent. Assumes nothing.
use Prim.Native.Nat.{ℕ}
use Prim.Native.String.{String}
use mathlib.Core.Bool.{true, false}
use mathlib.Core.Path.{◌≡◌, refl}
use mathlib.Core.List.{List, [], ◌∷◌, ◌++◌}
use lib.IntN.{pos}
use lib.ListN.{length, take, replicate}
use Rattle.metafile.specs.declared.Row.{Row}
use Rattle.metafile.specs.Bytes.{bytes}
use Rattle.metafile.specs.Chunk.{by_count}
use Rattle.metafile.specs.Reading.{read_file, reading}
use Rattle.metafile.specs.Answers.{result, refused}
use Rattle.metafile.specs.Append.{append}
use Rattle.metafile.specs.Calls.{contents, parent}
use Rattle.metafile.specs.Listing.{listing}
use Rattle.metafile.proofs.Samples.{paper_serial, to_append, lent, begun_llc}
use Rattle.examples.proofs.Texts.{serial42, serial43, integrity_text, header_llc, test_format, other_format, head_text, dependency_text, content_text, chunk_abc, texts}

-- ---- "a LLC000 file with one chunk of 3 bytes": 65 + 254 bytes of header, 568 + 34 + 3 + 254 bytes of chunk

unfoldable pub paper_file : List ℕ
paper_file =
    bytes "Format_ID=Ancillary Data Standard 1.00\n"
    ++ bytes "Separator_Strategy=LLC000\n"
    ++ bytes "Chunk_Serial_Number=#20240229123456789SURVEYDESK0100007002\n"
    ++ bytes "Chunk_Recording_Date=20240229\n"
    ++ bytes "Chunk_Recording_Agent=RECORDER                        \n"
    ++ bytes "Chunk_Writing_Date=20240301\n"
    ++ bytes "Chunk_Writing_Agent=DESK                            \n"
    ++ bytes "Chunk_Integrity_Checksum=077\n"
    ++ bytes "Chunk_Header_Length=000000000536\n"
    ++ bytes "SubFormat_ID=ADS\\DATA\\TEST"
    ++ replicate 243 32
    ++ bytes "\n"
    ++ bytes "Generic_Type=TXT\n"
    ++ bytes "Chunk_Time_Synch_Type=GEN\n"
    ++ bytes "Chunk_Time_Standard=UTC                                      \n"
    ++ bytes "Chunk_Time_Offset=+0000      8.035\n"
    ++ bytes "Chunk_Event_Synch=NUL                                      \n"
    ++ bytes "Chunk_Dependency_Length=000000000029\n"
    ++ bytes "Chunk_Dependency_Count=0000\n"
    ++ bytes "Chunk_Content_Length=000000000004\n"
    ++ bytes "abc"
    ++ bytes "Chunk_Serial_Number=#20240229123456789SURVEYDESK0100042001\n"
    ++ bytes "Chunk_Recording_Date=20240229\n"
    ++ bytes "Chunk_Recording_Agent=RECORDER                        \n"
    ++ bytes "Chunk_Writing_Date=20240301\n"
    ++ bytes "Chunk_Writing_Agent=DESK                            \n"
    ++ bytes "Chunk_Integrity_Checksum=122\n"

-- "end 1178 0": the file's length
pub paper-length : length paper_file ≡ 1178
unfolding paper_file
paper-length = refl

-- the pieces of Texts, which the other files here are made of, make this file
pub paper-pieces : header_llc ++ chunk_abc ≡ paper_file
unfolding texts paper_file
paper-pieces = refl

-- "A row holds: serial, place, header bytes, contents place .., contents bytes, end, dependency count, offset ..,
-- MultiChunk or not, sum good or not", and how the end was found.
unfoldable pub paper_row : Row
paper_row =
    record {
      serial = bytes "#20240229123456789SURVEYDESK0100042001";
      place = 319;
      header = 568;
      contents = 921;
      bytes = 3;
      end = 1178;
      dependencies = 0;
      offset = pos 80350000000;
      multichunk = false;
      good = true;
      ending = by_count;
    }

-- "The answer is count, stop .., header sum good .., number.": with the 76 rows that are enough for 65,536 bytes
pub paper-76-rows : read_file 76 paper_file ≡ record { rows = paper_row ∷ []; stop = 1178; good = true; number = 0 }
unfolding texts paper_file paper_row
paper-76-rows = refl

-- and "by a reading with rows enough"
pub paper-reading : reading paper_file ≡ record { rows = paper_row ∷ []; stop = 1178; good = true; number = 0 }
unfolding texts paper_file paper_row
paper-reading = refl

-- "prints this for a LLC000 file with one chunk of 3 bytes"
pub paper-listing :
    listing paper_file
    ≡ bytes "header good\n"
    ++ bytes "chunks 1\n"
    ++ bytes "0 319 568 3 good #20240229123456789SURVEYDESK0100042001\n"
    ++ bytes "end 1178 0\n"
unfolding texts paper_file
paper-listing = refl

-- "A longer input prints only "end 0 11".": 65,536 bytes are read, one more is not
pub listing-65536 : listing (replicate 65536 7) ≡ bytes "header bad\nchunks 0\nend 0 1\n"
unfolding texts
listing-65536 = refl

pub listing-65537 : listing (replicate 65537 7) ≡ bytes "end 0 11\n"
unfolding texts
listing-65537 = refl

-- begin and append write this file: "Begin .. writes these bytes", "Three writes .. header with content length line;
-- data; closing."
pub paper-written :
    take 1178 (append (lent begun_llc) 319 (to_append paper_serial (bytes "abc") false)).buffer
    ≡ paper_file
unfolding texts paper_file
paper-written = refl

-- ---- "Contents hands back the part of the file that the row names, uncopied; refused, an empty part and the number."

pub paper-contents : contents paper_file 0 ≡ record { contents = bytes "abc"; number = 0 }
unfolding texts paper_file
paper-contents = refl

-- "13 row not in the reading"
pub paper-contents-refused : contents paper_file 1 ≡ record { contents = []; number = 13 }
unfolding texts paper_file
paper-contents-refused = refl

-- ---- "Parent of row k, dependency j, both from 0: the row with that serial and whether the sub-formats agree, or
-- missing."

-- a chunk of 1,203 bytes that depends on the serial number of the paper's chunk, under this sub-format: the dependency
-- length is 373, the header length 880
unfoldable pub dependent : List ℕ → String → List ℕ
dependent sub_format sum =
    head_text "000000000880" test_format "000000000373" "0001"
    ++ bytes "\n"
    ++ dependency_text serial42 sub_format
    ++ content_text "000000000004"
    ++ bytes "xyz"
    ++ integrity_text serial43 sum

-- the second chunk depends on the first and has the first's sub-format, or another one; or it stands alone
unfoldable pub agreeing : List ℕ
agreeing = header_llc ++ chunk_abc ++ dependent test_format "052"

unfoldable pub disagreeing : List ℕ
disagreeing = header_llc ++ chunk_abc ++ dependent other_format "086"

unfoldable pub alone : List ℕ
alone = header_llc ++ dependent test_format "052"

-- "the header takes 568 + 344 × n + s bytes"
pub dependent-reading :
    reading agreeing
    ≡ record {
      rows =
          paper_row
          ∷ record {
            serial = bytes "#20240229123456789SURVEYDESK0100043002";
            place = 1178;
            header = 912;
            contents = 2124;
            bytes = 3;
            end = 2381;
            dependencies = 1;
            offset = pos 80350000000;
            multichunk = false;
            good = true;
            ending = by_count;
          }
          ∷ [];
      stop = 2381;
      good = true;
      number = 0;
    }
unfolding texts paper_row dependent agreeing
dependent-reading = refl

-- found at row 0, the sub-formats agree
pub parent-agreeing : parent agreeing 1 0 ≡ result (0 ∷ 1 ∷ [])
unfolding texts dependent agreeing
parent-agreeing = refl

-- found at row 0, the sub-formats don't agree
pub parent-disagreeing : parent disagreeing 1 0 ≡ result (0 ∷ 0 ∷ [])
unfolding texts dependent disagreeing
parent-disagreeing = refl

pub parent-missing : parent alone 0 0 ≡ result []
unfolding texts dependent alone
parent-missing = refl

-- "13 row not in the reading", "14 no dependency j"
pub parent-no-row : parent agreeing 2 0 ≡ refused 13
unfolding texts dependent agreeing
parent-no-row = refl

pub parent-no-dependency : parent agreeing 1 1 ≡ refused 14
unfolding texts dependent agreeing
parent-no-dependency = refl
