-- "Fields are read in file order: 4 if the bytes end inside a field, else its own fault.": the numbers of files that end
-- just behind a fault, or inside the field that has it. Assumes nothing.
use Prim.Native.Nat.{ℕ}
use Prim.Native.String.{String}
use mathlib.Core.Path.{◌≡◌, refl}
use mathlib.Core.List.{List, ◌++◌}
use lib.ListN.{take, replicate}
use Rattle.metafile.specs.Bytes.{bytes}
use Rattle.metafile.specs.Reading.{reading}
use Rattle.examples.proofs.Texts.{title_text, header_llc, test_format, multi_format, head_text, plain_header, multi_text, type_text, texts}

-- the number of a file that holds these bytes behind a whole header
unfoldable pub number_of : List ℕ → ℕ
number_of s = (reading (header_llc ++ s)).number

-- a type, its short ID is A
unfoldable pub type_a : List ℕ
type_a = type_text "000000000484" test_format (bytes "A         ")

-- a MultiChunk up to its first type, with this header length and type count; one up to its first mini-chunk
unfoldable pub multi_up_to : String → String → List ℕ
multi_up_to multi_length count = plain_header multi_format ++ multi_text multi_length count

unfoldable pub one_type : List ℕ
one_type = multi_up_to "000000000545" "0001" ++ type_a

pub record ReadOrder : Type 0 where
  -- "The first 65 bytes are one field"
  pub title-64 : (reading (replicate 64 7)).number ≡ 4
  pub title-65 : (reading (replicate 65 7)).number ≡ 1
  -- "3 mark begins "MiniChunk="": a mark of 11 bytes that is not there whole
  pub mark-cut-short : (reading (title_text "NUL011" ++ bytes "MiniChunk=")).number ≡ 4
  -- bytes behind the header are a chunk's first label, 20 bytes
  pub label-19 : number_of (replicate 19 7) ≡ 4
  pub label-20 : number_of (replicate 20 7) ≡ 5
  -- "a listed word and the 38 bytes after it are two": the word alone decides
  pub word : number_of (take 366 (head_text "000000000536" test_format "000000000029" "0000") ++ bytes "MAS") ≡ 5
  -- "6 before 7": the dependency count is no number, the dependency length is wrong
  pub count-6 : number_of (head_text "000000000536" test_format "000000000028" "000 ") ≡ 6
  -- "the header length 536 + 344 × n + s": a shorter one is 7; a longer one says that specific data follow: 4
  pub header-535 : number_of (head_text "000000000535" test_format "000000000029" "0000") ≡ 7
  pub header-537 : number_of (head_text "000000000537" test_format "000000000029" "0000") ≡ 4
  -- "none for a MultiChunk: 7"
  pub multi-537 : number_of (head_text "000000000537" multi_format "000000000029" "0000") ≡ 7
  -- "Under LLC 0 is refused (7)."
  pub content-0 : number_of (plain_header test_format ++ bytes "Chunk_Content_Length=000000000000") ≡ 7
  pub content-1 : number_of (plain_header test_format ++ bytes "Chunk_Content_Length=000000000001") ≡ 4
  -- "MiniChunk_Type_Count= I4 from 1 to 64": the file ends at its last digit
  pub types-0 : number_of (take 632 (multi_up_to "000000000545" "0000")) ≡ 7
  pub types-64 : number_of (take 632 (multi_up_to "000000000545" "0064")) ≡ 4
  pub types-65 : number_of (take 632 (multi_up_to "000000000545" "0065")) ≡ 7
  -- "length 484 + s"
  pub type-483 : number_of (multi_up_to "000000000545" "0001" ++ bytes "SubType_Header_Length=000000000483") ≡ 7
  -- "Multi_Chunk_Header_Length at the last SubType_Header_Length": not at the first of two
  pub first-type : number_of (multi_up_to "000000000545" "0002" ++ take 34 type_a) ≡ 4
  pub last-type : number_of (multi_up_to "000000000545" "0002" ++ type_a ++ take 34 type_a) ≡ 7
  -- "8 short ID twice or undeclared": before the LF behind it, before the I12 behind it
  pub short-ID-twice : number_of (multi_up_to "000000001063" "0002" ++ type_a ++ take 334 type_a) ≡ 8
  pub undeclared : number_of (one_type ++ bytes "MiniChunk=B         ") ≡ 8
  -- "Where the first must stand, fewer than 10 bytes left are 4, other bytes 8."
  pub mini-9 : number_of (one_type ++ replicate 9 7) ≡ 4
  pub mini-10 : number_of (one_type ++ replicate 10 7) ≡ 8
  -- behind the first other bytes are no mini-chunk, so the closing stands there: with no mark its first label, 20 bytes
  pub mini-19 : number_of (one_type ++ bytes "MiniChunk=A         000000000001x" ++ replicate 19 7) ≡ 4
  pub mini-20 : number_of (one_type ++ bytes "MiniChunk=A         000000000001x" ++ replicate 20 7) ≡ 5

pub read-order : ReadOrder
unfolding texts number_of type_a multi_up_to one_type
read-order =
    record {
      title-64 = refl;
      title-65 = refl;
      mark-cut-short = refl;
      label-19 = refl;
      label-20 = refl;
      word = refl;
      count-6 = refl;
      header-535 = refl;
      header-537 = refl;
      multi-537 = refl;
      content-0 = refl;
      content-1 = refl;
      types-0 = refl;
      types-64 = refl;
      types-65 = refl;
      type-483 = refl;
      first-type = refl;
      last-type = refl;
      short-ID-twice = refl;
      undeclared = refl;
      mini-9 = refl;
      mini-10 = refl;
      mini-19 = refl;
      mini-20 = refl;
    }
