-- Demand 3 tried on two cuts, by computing: its clauses on the number of rows (old-count and new-count of the record Safe),
-- for an append that only test 15 refuses, and for one that only the mark behind the data lets test 16 refuse.
--
-- A mark of 130 zeros. The data are the bytes of a closing between two x, so 16 doesn't refuse. They are written from 1535,
-- the last byte of block 2, to 2048, the first of block 4. Where blocks 2 and 4 are lost, both x are zeros too, and the data
-- close a chunk with empty contents that nobody appended.
--
-- The mark ABAB and the data QAB: the finished file has the mark at their second byte, and no closing there.
--     safe_count   the clauses, of one append and one cut
--     zero-mark overlap   the two
-- Assumes nothing.
use Prim.Native.Nat.{ℕ, ◌+◌}
use mathlib.Core.Bool.{Bool, true, false, not, ◌||◌}
use mathlib.Core.Path.{◌≡◌, refl}
use mathlib.Core.List.{List, [], ◌++◌}
use lib.Dec.{eqb}
use lib.ListN.{length, take, replicate}
use Rattle.metafile.specs.Bytes.{bytes, part, same}
use Rattle.metafile.specs.Closing.{closing_bytes}
use Rattle.metafile.specs.Reading.{rows_of}
use Rattle.metafile.specs.Answers.{Answer, result, refused, flag, Outcome}
use Rattle.metafile.specs.Begin.{begun_file}
use Rattle.metafile.specs.Append.{Given, integrity_given, first_write, first_end, second_end, third_end, append}
use Rattle.metafile.specs.Cut.{contents_write, closing_write, CutPoint, remains}
use Rattle.metafile.proofs.Computed.{computed}
use Rattle.metafile.proofs.Samples.{paper_serial, file_serial, text256, text32, to_begin, described, to_append, lent, begun_abab}

unfoldable pub taken : Answer → Bool
taken (result vs) = true
taken (refused n) = false

-- refused, or what is left has the old rows, and one more where it is the finished file
unfoldable pub safe_count : List ℕ → ℕ → Given → CutPoint → Bool
safe_count buffer len g cut =
    let old : List ℕ = take len buffer in
    let o : Outcome = append buffer len g in
    let left : List ℕ = remains o.buffer len (first_end old g) (second_end old g) (third_end old g) cut in
    let done : List ℕ = take (third_end old g) o.buffer in
    not (taken o.answer) || eqb (length (rows_of left)) (length (rows_of old) + flag (same left done))

-- ---- a mark of zeros

unfoldable pub zeros : ℕ → List ℕ
zeros n = replicate n 0

-- a header with no chunk behind it, 579 bytes
unfoldable pub zero_marked : List ℕ
zero_marked = begun_file (to_begin (bytes "NUL") (zeros 130))

-- 354 bytes of specific data bring the data's first byte to 1535
unfoldable pub open_given : List ℕ → Given
open_given contents =
    record { description = described paper_serial; parents = []; specific = replicate 354 32; contents = contents; is_open = true }

-- the closing of a chunk with empty contents
unfoldable pub other_closing : List ℕ
other_closing =
    closing_bytes (zeros 130) (integrity_given (described (bytes "#20240229123456789SURVEYDESK0100043002"))) (first_write zero_marked (open_given []))

unfoldable pub closing_given : Given
closing_given = open_given (bytes "x" ++ part 1 512 other_closing ++ bytes "x")

-- all of the data, without blocks 2 and 4
unfoldable pub two_lost : CutPoint
two_lost = record { write = contents_write; kept = 514; lost = λ b. eqb b 2 || eqb b 4 }

-- ---- a mark that begins in the data

-- all of the last write, and no block lost
unfoldable pub none_lost : CutPoint
none_lost = record { write = closing_write; kept = 262; lost = λ b. false }

-- ---- the two

-- `unfolding cuts` opens these values and every definition
unfoldable pub cuts : Unit {0}
unfolding computed paper_serial file_serial text256 text32 to_begin described to_append lent begun_abab zeros zero_marked open_given other_closing closing_given two_lost none_lost
cuts = tt

pub zero-mark : safe_count (zero_marked ++ replicate 2000 7) 579 closing_given two_lost ≡ true
unfolding cuts taken safe_count
zero-mark = refl

pub overlap : safe_count (lent begun_abab) 327 (to_append paper_serial (bytes "QAB") true) none_lost ≡ true
unfolding cuts taken safe_count
overlap = refl
