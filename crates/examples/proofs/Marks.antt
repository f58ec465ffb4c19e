-- Chunks under NUL, read: open data end at the first mark, counted data are not searched. Files with wrong sums, read.
-- Assumes nothing.
use Prim.Native.Nat.{ℕ}
use mathlib.Core.Bool.{true, false}
use mathlib.Core.Path.{◌≡◌, refl}
use mathlib.Core.List.{List, [], ◌∷◌, ◌++◌}
use lib.IntN.{pos}
use lib.ListN.{take}
use Rattle.metafile.specs.declared.Row.{Row}
use Rattle.metafile.specs.Bytes.{bytes}
use Rattle.metafile.specs.Chunk.{by_count, by_mark}
use Rattle.metafile.specs.Reading.{reading}
use Rattle.examples.proofs.Texts.{serial7, serial42, serial43, integrity_text, title_text, header_abab, test_format, plain_header, content_text, texts}

-- "the data end at the first place where the mark occurs": QA and the mark are QAABAB, where ABAB first occurs at 2
unfoldable pub open_chunk : List ℕ
open_chunk =
    plain_header test_format
    ++ content_text "000000000000"
    ++ bytes "QA"
    ++ bytes "ABAB"
    ++ integrity_text serial42 "232"
    ++ bytes "ABAB"

-- "Otherwise the count rules and the mark isn't searched for.": the six bytes of data hold the mark
unfoldable pub counted_chunk : List ℕ
counted_chunk =
    plain_header test_format
    ++ content_text "000000000007"
    ++ bytes "QABABQ"
    ++ bytes "ABAB"
    ++ integrity_text serial43 "007"
    ++ bytes "ABAB"

unfoldable pub open_row : Row
open_row =
    record {
      serial = bytes "#20240229123456789SURVEYDESK0100042001";
      place = 327;
      header = 568;
      contents = 929;
      bytes = 2;
      end = 1193;
      dependencies = 0;
      offset = pos 80350000000;
      multichunk = false;
      good = true;
      ending = by_mark;
    }

pub marks-reading :
    reading (header_abab ++ open_chunk ++ counted_chunk)
    ≡ record {
      rows =
          open_row
          ∷ record {
            serial = bytes "#20240229123456789SURVEYDESK0100043002";
            place = 1193;
            header = 568;
            contents = 1795;
            bytes = 6;
            end = 2063;
            dependencies = 0;
            offset = pos 80350000000;
            multichunk = false;
            good = true;
            ending = by_count;
          }
          ∷ [];
      stop = 2063;
      good = true;
      number = 0;
    }
unfolding texts open_chunk counted_chunk open_row
marks-reading = refl

-- "a chunk taken before its closing mark" is a likely error: without the last byte of the file the second is no row
pub mark-cut :
    reading (take 2062 (header_abab ++ open_chunk ++ counted_chunk))
    ≡ record { rows = open_row ∷ []; stop = 1193; good = true; number = 4 }
unfolding texts open_chunk counted_chunk open_row
mark-cut = refl

-- "4 .. open mark not found"
pub mark-not-found :
    reading (header_abab ++ plain_header test_format ++ content_text "000000000000" ++ bytes "QABAQABA")
    ≡ record { rows = []; stop = 327; good = true; number = 4 }
unfolding texts
mark-not-found = refl

-- ---- "A wrong sum doesn't stop the reading; the row says so.": the header's is 077, the chunk's 081

unfoldable pub wrong_sums : List ℕ
wrong_sums =
    title_text "LLC000"
    ++ integrity_text serial7 "078"
    ++ plain_header test_format
    ++ content_text "000000000001"
    ++ integrity_text serial42 "255"

pub sums-wrong :
    reading wrong_sums
    ≡ record {
      rows =
          record {
            serial = bytes "#20240229123456789SURVEYDESK0100042001";
            place = 319;
            header = 568;
            contents = 921;
            bytes = 0;
            end = 1175;
            dependencies = 0;
            offset = pos 80350000000;
            multichunk = false;
            good = false;
            ending = by_count;
          }
          ∷ [];
      stop = 1175;
      good = false;
      number = 0;
    }
unfolding texts wrong_sums
sums-wrong = refl
