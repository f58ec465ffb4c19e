-- "How the end was found", by computing: a file with all three endings, chunks without data, and what is read back after an
-- append. An edit of the definitions fails here. Assumes nothing.
--     three_ways empty-found empty-counted   the endings of a reading
--     chosen-open chosen-counted             an append's row is the one demanded
use Prim.Native.Nat.{ℕ}
use mathlib.Core.Bool.{true, false}
use mathlib.Core.Path.{◌≡◌, refl}
use mathlib.Core.List.{List, [], ◌∷◌, ◌++◌, map}
use lib.ListN.{length, take, drop}
use Rattle.metafile.specs.declared.Row.{Row}
use Rattle.metafile.specs.Bytes.{bytes, part}
use Rattle.metafile.specs.Lines.{write}
use Rattle.metafile.specs.Closing.{closing_bytes}
use Rattle.metafile.specs.Chunk.{head, multi_name, by_count, by_mark, by_mini_chunks}
use Rattle.metafile.specs.Reading.{rows_of}
use Rattle.metafile.specs.Append.{Given, integrity_given, head_values, third_end}
use Rattle.metafile.specs.Demand.{finished, new_row}
use Rattle.metafile.proofs.Computed.{computed}
use Rattle.metafile.proofs.Samples.{paper_serial, file_serial, text256, text32, to_begin, described, to_append, lent, begun_abab}

unfoldable pub endings : List ℕ → List ℕ
endings file = map (λ (r : Row). r.ending) (rows_of file)

unfoldable pub appended : List ℕ → Given → List ℕ
appended old g = finished (lent old) (length old) g (third_end old g)

-- two bytes, open and counted; either way the mark stands behind them
unfoldable pub open_given : Given
open_given = to_append paper_serial (bytes "QA") true

unfoldable pub counted_given : Given
counted_given = to_append (bytes "#20240229123456789SURVEYDESK0100043002") (bytes "QA") false

-- a MultiChunk with one type and one mini-chunk: the header of a chunk of text, with another sub-format
unfoldable pub multi_serial : List ℕ
multi_serial = bytes "#20240229123456789SURVEYDESK0100044003"

unfoldable pub text_header : List ℕ
text_header = write head (head_values (to_append multi_serial [] true)) ++ bytes "\n"

unfoldable pub multi_bytes : List ℕ
multi_bytes =
    take 46 text_header
    ++ multi_name
    ++ drop 302 text_header
    ++ bytes "Multi_Chunk_Header_Length=000000000545\nMiniChunk_Type_Count=0001\nSubType_Header_Length=000000000484\n"
    ++ part 33 270 text_header
    ++ bytes "SubFormat_Short_ID=DEPTH     \n"
    ++ part 320 183 text_header
    ++ bytes "MiniChunk=DEPTH     00000000000412.5"

unfoldable pub multi_chunk : List ℕ
multi_chunk = multi_bytes ++ closing_bytes (bytes "ABAB") (integrity_given (described multi_serial)) multi_bytes

-- `unfolding samples` opens these values and every definition
unfoldable pub samples : Unit {0}
unfolding computed paper_serial file_serial text256 text32 to_begin described to_append lent begun_abab endings appended open_given counted_given multi_serial text_header multi_bytes multi_chunk
samples = tt

pub three_ways : endings (appended (appended begun_abab open_given) counted_given ++ multi_chunk) ≡ by_mark ∷ by_count ∷ by_mini_chunks ∷ []
unfolding samples
three_ways = refl

-- no data: the mark at once, or a count of 1
pub empty-found : endings (appended begun_abab (to_append paper_serial [] true)) ≡ by_mark ∷ []
unfolding samples
empty-found = refl

pub empty-counted : endings (appended begun_abab (to_append paper_serial [] false)) ≡ by_count ∷ []
unfolding samples
empty-counted = refl

-- "After an append it is the way the caller chose."
pub chosen-open : rows_of (appended begun_abab open_given) ≡ new_row begun_abab open_given 929 1193 ∷ []
unfolding samples
chosen-open = refl

pub chosen-counted : rows_of (appended begun_abab counted_given) ≡ new_row begun_abab counted_given 929 1193 ∷ []
unfolding samples
chosen-counted = refl
