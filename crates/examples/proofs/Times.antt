-- The time and event lines, read and written: the 38 bytes after a listed word, and the row's offset. Assumes nothing.
use Prim.Native.Nat.{ℕ}
use Prim.Native.String.{String}
use mathlib.Core.Bool.{true, false}
use mathlib.Core.Path.{◌≡◌, refl}
use mathlib.Core.List.{List, [], ◌∷◌, ◌++◌}
use lib.IntN.{pos, neg_ℤ}
use lib.ListN.{replicate}
use Rattle.metafile.specs.Bytes.{bytes}
use Rattle.metafile.specs.Chunk.{by_count}
use Rattle.metafile.specs.Reading.{reading}
use Rattle.metafile.specs.Answers.{result, refused}
use Rattle.metafile.specs.Append.{Given, append}
use Rattle.metafile.proofs.Samples.{text256, text32}
use Rattle.examples.proofs.Texts.{spaces, serial7, serial42, serial43, serial44, integrity_text, header_llc, test_format, times_text, head_with, content_text, chunk_empty, texts}

-- an empty chunk of 856 bytes with these time and event lines
unfoldable pub timed_chunk : List ℕ → String → String → List ℕ
timed_chunk times serial sum =
    head_with times "000000000536" test_format "000000000029" "0000"
    ++ bytes "\n"
    ++ content_text "000000000001"
    ++ integrity_text serial sum

-- ---- "offset (0 under SPE or NUL standard)"; "The 38 bytes must be a serial number after ALT, SLV and MAS; elsewhere
-- they are free"

-- SPE; NUL standard, and free bytes that are zero or LF; ALT and MAS with serial numbers
unfoldable pub times_file : List ℕ
times_file =
    header_llc
    ++ timed_chunk
    (times_text "SPE" (bytes "UTC" ++ spaces 38) "+0000      8.035" (bytes "NUL" ++ spaces 38))
    serial42
    "095"
    ++ timed_chunk
    (times_text "GEN" (bytes "NUL" ++ replicate 38 0) "+0000      8.035" (bytes "NUL" ++ replicate 38 10))
    serial43
    "082"
    ++ timed_chunk
    (times_text "GEN" (bytes "ALT" ++ bytes serial7) "-0100      0.000" (bytes "MAS" ++ bytes serial42))
    serial44
    "213"

pub times-reading :
    reading times_file
    ≡ record {
      rows =
          record {
            serial = bytes "#20240229123456789SURVEYDESK0100042001";
            place = 319;
            header = 568;
            contents = 921;
            bytes = 0;
            end = 1175;
            dependencies = 0;
            offset = pos 0;
            multichunk = false;
            good = true;
            ending = by_count;
          }
          ∷ record {
            serial = bytes "#20240229123456789SURVEYDESK0100043002";
            place = 1175;
            header = 568;
            contents = 1777;
            bytes = 0;
            end = 2031;
            dependencies = 0;
            offset = pos 0;
            multichunk = false;
            good = true;
            ending = by_count;
          }
          ∷ record {
            serial = bytes "#20240229123456789SURVEYDESK0100044003";
            place = 2031;
            header = 568;
            contents = 2633;
            bytes = 0;
            end = 2887;
            dependencies = 0;
            offset = neg_ℤ (pos 36000000000000);
            multichunk = false;
            good = true;
            ending = by_count;
          }
          ∷ [];
      stop = 2887;
      good = true;
      number = 0;
    }
unfolding texts timed_chunk times_file
times-reading = refl

-- ---- "elsewhere they are free, and the writer is given none and puts spaces"

-- an empty chunk to append: standard and event, and the two serial numbers of the description
unfoldable pub timed : String → String → List ℕ → List ℕ → String → Given
timed standard event alternate linked offset =
    record {
      description =
          record {
            subformat = text256 (bytes "ADS\\DATA\\TEST");
            generic = bytes "TXT";
            synch = bytes "GEN";
            standard = bytes standard;
            alternate = alternate;
            offset = bytes offset;
            event = bytes event;
            linked = linked;
            serial = bytes serial42;
            recorded = bytes "20240229";
            recorder = text32 (bytes "RECORDER");
            written = bytes "20240301";
            writer = text32 (bytes "DESK");
          };
      parents = [];
      specific = [];
      contents = [];
      is_open = false;
    }

-- serial numbers are written after ALT and SLV
pub append-ALT :
    append (header_llc ++ replicate 900 7) 319 (timed "ALT" "SLV" (bytes serial43) (bytes serial44) "-0000      0.000")
    ≡ record {
      answer = result (921 ∷ 921 ∷ 1175 ∷ []);
      buffer =
          header_llc
          ++ timed_chunk
          (times_text "GEN" (bytes "ALT" ++ bytes serial43) "-0000      0.000" (bytes "SLV" ++ bytes serial44))
          serial42
          "232"
          ++ replicate 44 7;
    }
unfolding texts timed_chunk timed
append-ALT = refl

-- and spaces after UTC and NUL, whatever the description holds
pub append-UTC :
    append (header_llc ++ replicate 900 7) 319 (timed "UTC" "NUL" (bytes serial43) (replicate 38 0) "+0000      8.035")
    ≡ record { answer = result (921 ∷ 921 ∷ 1175 ∷ []); buffer = header_llc ++ chunk_empty ++ replicate 44 7 }
unfolding texts timed
append-UTC = refl

-- after MAS no serial number was given: 6
pub append-MAS :
    append (header_llc ++ replicate 900 7) 319 (timed "UTC" "MAS" (spaces 38) (spaces 38) "+0000      8.035")
    ≡ record { answer = refused 6; buffer = header_llc ++ replicate 900 7 }
unfolding texts timed
append-MAS = refl
