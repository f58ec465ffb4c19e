-- "Older recorders pad numbers with spaces", by computing: the forms of a number, of the strategy line and of a serial number;
-- a file with spaces in every place; one serial number under two writings of its check. An edit of the definitions fails here.
-- Assumes nothing.
--     Forms           a check in eight forms, the strategy line, a serial number
--     padded-reads    every length, count and check with spaces in front
--     repeated-9 append-9 parent-found   two writings of one serial number
--     given-written   a given serial number is written as it came, other numbers with zeros
use Prim.Native.Nat.{ℕ}
use mathlib.Core.Bool.{true, false}
use mathlib.Core.Path.{◌≡◌, refl}
use mathlib.Core.List.{List, [], ◌∷◌, ◌++◌, map}
use lib.IntN.{pos}
use lib.ListN.{take, drop}
use Rattle.metafile.specs.declared.Row.{Row}
use Rattle.metafile.specs.Bytes.{bytes, part}
use Rattle.metafile.specs.Fields.{count_value}
use Rattle.metafile.specs.Lines.{count, serial, write, kind_fault}
use Rattle.metafile.specs.Closing.{unsummed, summed_bytes}
use Rattle.metafile.specs.Header.{title_fault}
use Rattle.metafile.specs.Chunk.{multi_name, by_count, by_mini_chunks}
use Rattle.metafile.specs.Reading.{reading, rows_of}
use Rattle.metafile.specs.Answers.{result, refused}
use Rattle.metafile.specs.Append.{Given, integrity_given, append}
use Rattle.metafile.specs.Calls.{parent}
use Rattle.metafile.proofs.Computed.{computed}
use Rattle.metafile.proofs.Samples.{paper_serial, described, to_append, lent, begun_abab}
use Rattle.metafile.proofs.ThreeEndings.{samples, appended, text_header, multi_bytes}

-- ---- forms

-- the first 65 bytes with this strategy and mark length
unfoldable pub titled : List ℕ → List ℕ
titled v = bytes "Format_ID=Ancillary Data Standard 1.00\nSeparator_Strategy=" ++ v ++ bytes "\n"

-- the paper's serial number, its check 1 with spaces in front
unfoldable pub spaced_serial : List ℕ
spaced_serial = bytes "#20240229123456789SURVEYDESK0100042  1"

pub record Forms : Type 0 where
  -- "leading spaces before at least one digit"
  pub two-spaces : kind_fault (count 3 255) (bytes "  7") ≡ 0
  pub one-space : kind_fault (count 3 255) (bytes " 07") ≡ 0
  pub no-space : kind_fault (count 3 255) (bytes "007") ≡ 0
  pub two-spaces-value : count_value (bytes "  7") ≡ 7
  pub one-space-value : count_value (bytes " 07") ≡ 7
  pub no-space-value : count_value (bytes "007") ≡ 7
  -- "a field of spaces only is 6"; a space behind or inside, a sign and a tab are out of form too
  pub spaces-only : kind_fault (count 3 255) (bytes "   ") ≡ 6
  pub spaces-behind : kind_fault (count 3 255) (bytes "7  ") ≡ 6
  pub space-inside : kind_fault (count 3 255) (bytes "0 7") ≡ 6
  pub sign-in-front : kind_fault (count 3 255) (bytes " +7") ≡ 6
  pub tab-in-front : kind_fault (count 3 255) (9 ∷ bytes " 7") ≡ 6
  -- "or 1 in the strategy line, where NUL with 0 in any form is 2"
  pub title-spaces : title_fault (titled (bytes "LLC   ")) ≡ 1
  pub title-behind : title_fault (titled (bytes "NUL7  ")) ≡ 1
  pub tape-zeros : title_fault (titled (bytes "NUL000")) ≡ 2
  pub tape-space : title_fault (titled (bytes "NUL 00")) ≡ 2
  pub tape-spaces : title_fault (titled (bytes "NUL  0")) ≡ 2
  pub title-LLC : title_fault (titled (bytes "LLC  0")) ≡ 0
  pub title-NUL : title_fault (titled (bytes "NUL  4")) ≡ 0
  -- "the two checks" may, "times, random .. keep all digits"; both have the right check
  pub check-spaces : kind_fault serial spaced_serial ≡ 0
  pub check-none : kind_fault serial (bytes "#20240229123456789SURVEYDESK0100042   ") ≡ 6
  pub random-space : kind_fault serial (bytes "#20240229123456789SURVEYDESK01 0042241") ≡ 6
  pub hour-space : kind_fault serial (bytes "#20240229 23456789SURVEYDESK0100042240") ≡ 6

pub forms : Forms
unfolding computed titled spaced_serial
forms =
    record {
      two-spaces = refl;
      one-space = refl;
      no-space = refl;
      two-spaces-value = refl;
      one-space-value = refl;
      no-space-value = refl;
      spaces-only = refl;
      spaces-behind = refl;
      space-inside = refl;
      sign-in-front = refl;
      tab-in-front = refl;
      title-spaces = refl;
      title-behind = refl;
      tape-zeros = refl;
      tape-space = refl;
      tape-spaces = refl;
      title-LLC = refl;
      title-NUL = refl;
      check-spaces = refl;
      check-none = refl;
      random-space = refl;
      hour-space = refl;
    }

-- ---- a file with spaces in every place: a mark, a chunk of three bytes, and a MultiChunk

unfoldable pub spaced_file_serial : List ℕ
spaced_file_serial = bytes "#20240229123456789SURVEYDESK0100007  2"

unfoldable pub other_serial : List ℕ
other_serial = bytes "#20240229123456789SURVEYDESK0100044  3"

-- bytes, and their closing with this sum
unfoldable pub closed_by : List ℕ → List ℕ → List ℕ → List ℕ
closed_by own sum before =
    before
    ++ summed_bytes (bytes "ABAB") (integrity_given (described own))
    ++ write (unsummed (bytes "ABAB")) (sum ∷ [])

unfoldable pub padded_header : List ℕ
padded_header = closed_by spaced_file_serial (bytes " 43") (titled (bytes "NUL  4"))

unfoldable pub padded_head : List ℕ
padded_head =
    bytes "Chunk_Header_Length=         536" ++ part 32 495 text_header ++ bytes "          29\nChunk_Dependency_Count=   0\n"

unfoldable pub padded_chunk : List ℕ
padded_chunk = closed_by spaced_serial (bytes " 80") (padded_head ++ bytes "Chunk_Content_Length=           4\nabc")

unfoldable pub padded_multi : List ℕ
padded_multi =
    closed_by other_serial (bytes "  8")
    (take 46 padded_head
    ++ multi_name
    ++ drop 302 padded_head
    ++ bytes "Multi_Chunk_Header_Length=         545\nMiniChunk_Type_Count=   1\nSubType_Header_Length=         484\n"
    ++ part 668 483 multi_bytes
    ++ bytes "MiniChunk=DEPTH                46789")

unfoldable pub padded_file : List ℕ
padded_file = padded_header ++ padded_chunk

-- the same chunk with zeros, and a chunk that names it
unfoldable pub zeros_file : List ℕ
zeros_file = appended begun_abab (to_append paper_serial (bytes "abc") false)

unfoldable pub child_given : Given
child_given =
    record {
      description = described (bytes "#20240229123456789SURVEYDESK0100043  2");
      parents = 0 ∷ [];
      specific = [];
      contents = [];
      is_open = false;
    }

unfoldable pub padded : Unit {0}
unfolding samples titled spaced_serial spaced_file_serial other_serial closed_by padded_header padded_head padded_chunk padded_multi padded_file zeros_file child_given
padded = tt

pub padded-reads :
    reading (padded_file ++ padded_multi)
    ≡ record {
      rows =
          record {
            serial = spaced_serial;
            place = 327;
            header = 568;
            contents = 929;
            bytes = 3;
            end = 1194;
            dependencies = 0;
            offset = pos 80350000000;
            multichunk = false;
            good = true;
            ending = by_count;
          }
          ∷ record {
            serial = other_serial;
            place = 1194;
            header = 568;
            contents = 1762;
            bytes = 619;
            end = 2643;
            dependencies = 0;
            offset = pos 80350000000;
            multichunk = true;
            good = true;
            ending = by_mini_chunks;
          }
          ∷ [];
      stop = 2643;
      good = true;
      number = 0;
    }
unfolding padded
padded-reads = refl

-- ---- "serials are compared by their first 35 bytes"

-- the chunk once more, its check written otherwise
pub repeated-9 : (reading (padded_file ++ drop 327 zeros_file)).number ≡ 9
unfolding padded
repeated-9 = refl

pub append-9 : (append (lent padded_file) 1194 (to_append paper_serial [] false)).answer ≡ refused 9
unfolding padded
append-9 = refl

-- named with zeros, standing with spaces
pub parent-found : parent (padded_file ++ drop 1194 (appended zeros_file child_given)) 1 0 ≡ result (0 ∷ 1 ∷ [])
unfolding padded
parent-found = refl

-- ---- "Our writer still fills its own numbers with zeros and copies a given serial as it came."

pub given-written :
    map (λ (r : Row). r.serial) (rows_of (appended padded_file child_given))
    ≡ spaced_serial ∷ bytes "#20240229123456789SURVEYDESK0100043  2" ∷ []
unfolding padded
given-written = refl

-- the parent's serial number as its chunk has it
pub parent-copied : part 1762 63 (appended padded_file child_given) ≡ bytes "Dependency_Serial_Number=" ++ spaced_serial
unfolding padded
parent-copied = refl

pub own-zeros : part 1214 12 (appended padded_file child_given) ≡ bytes "000000000880"
unfolding padded
own-zeros = refl
