-- A MultiChunk with two types and three mini-chunks, read whole; contents and gather. Assumes nothing.
use Prim.Native.Nat.{ℕ, ◌+◌}
use mathlib.Core.Bool.{true}
use mathlib.Core.Path.{◌≡◌, refl}
use mathlib.Core.List.{List, [], ◌∷◌, ◌++◌}
use lib.IntN.{pos}
use lib.ListN.{length, replicate}
use Rattle.metafile.specs.Bytes.{bytes}
use Rattle.metafile.specs.Chunk.{by_mini_chunks}
use Rattle.metafile.specs.Reading.{reading}
use Rattle.metafile.specs.Answers.{result, refused}
use Rattle.metafile.specs.Calls.{contents, gather}
use Rattle.examples.proofs.Texts.{serial42, integrity_text, header_llc, test_format, other_format, multi_format, plain_header, chunk_abc, multi_text, type_text, texts}

-- "The header length is 27 plus 518 + s for each type.": the second has two free bytes of specific data, 0 and LF, so
-- its own length is 484 + 2 and this one 27 + 518 + 520
unfoldable pub multi_contents : List ℕ
multi_contents =
    multi_text "000000001065" "0002"
    ++ type_text "000000000484" test_format (bytes "DEPTH     ")
    ++ type_text "000000000486" other_format (bytes "HEADING   ")
    ++ (0 ∷ 10 ∷ [])
    ++ bytes "MiniChunk=DEPTH     00000000000412.5"
    ++ bytes "MiniChunk=HEADING   000000000003090"
    ++ bytes "MiniChunk=DEPTH     00000000000512.75"

unfoldable pub multi_file : List ℕ
multi_file = header_llc ++ plain_header multi_format ++ multi_contents ++ integrity_text serial42 "037"

pub multi-length : length multi_contents ≡ 65 + 518 + 520 + 36 + 35 + 37
unfolding texts multi_contents
multi-length = refl

-- "contents place (after the content length line; for a MultiChunk, its first line), contents bytes": 319 + 568, and
-- all of the above
pub multi-reading :
    reading multi_file
    ≡ record {
      rows =
          record {
            serial = bytes "#20240229123456789SURVEYDESK0100042001";
            place = 319;
            header = 568;
            contents = 887;
            bytes = 1211;
            end = 2352;
            dependencies = 0;
            offset = pos 80350000000;
            multichunk = true;
            good = true;
            ending = by_mini_chunks;
          }
          ∷ [];
      stop = 2352;
      good = true;
      number = 0;
    }
unfolding texts multi_contents multi_file
multi-reading = refl

pub multi-contents : contents multi_file 0 ≡ record { contents = multi_contents; number = 0 }
unfolding texts multi_contents multi_file
multi-contents = refl

-- ---- "Gather joins, in order, one short ID's mini-chunk data into a lent buffer and answers the length; bytes past it
-- keep their old state."

pub gather-depth :
    gather multi_file 0 (bytes "DEPTH") (replicate 12 7)
    ≡ record { answer = result (9 ∷ []); buffer = bytes "12.512.75" ++ replicate 3 7 }
unfolding texts multi_contents multi_file
gather-depth = refl

-- "14 .. gather: not a MultiChunk or ID undeclared"
pub gather-undeclared :
    gather multi_file 0 (bytes "SPEED") (replicate 12 7)
    ≡ record { answer = refused 14; buffer = replicate 12 7 }
unfolding texts multi_contents multi_file
gather-undeclared = refl

pub gather-plain :
    gather (header_llc ++ chunk_abc) 0 (bytes "DEPTH") (replicate 12 7)
    ≡ record { answer = refused 14; buffer = replicate 12 7 }
unfolding texts
gather-plain = refl

-- "18 lent buffer too short for the result"
pub gather-short :
    gather multi_file 0 (bytes "DEPTH") (replicate 8 7)
    ≡ record { answer = refused 18; buffer = replicate 8 7 }
unfolding texts multi_contents multi_file
gather-short = refl
