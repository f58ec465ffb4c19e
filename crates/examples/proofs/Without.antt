-- Demand 3 needs tests 15 and 16 as they are: with 15 dropped, or 16 searching the data alone, it is false.
--
-- The files, what is given and the cuts are those of metafile's Cuts. Without 15, the cut leaves a chunk with empty contents
-- and a good sum that nobody appended. Without the overlap, the reading finds no closing in the finished file.
--     Demand3By     demand 3 for an append by these tests; by_tests: by append's own it is demand 3
--     left-reading  what the cut left, read
--     needs-15      demand 3 is false without test 15
--     needs-overlap   demand 3 is false where test 16 searches the data alone
-- Assumes nothing.
use Prim.Native.Nat.{ℕ, ◌<◌}
use mathlib.Core.Bool.{Bool, true, false, cond, ◌&&◌, ◌||◌}
use mathlib.Core.Path.{◌≡◌, refl, ap}
use mathlib.Core.List.{List, [], ◌∷◌, ◌++◌}
use native.Mathlib.Omega.{arith}
use lib.Dec.{ltb, eqb, lit<}
use lib.IntN.{pos}
use lib.ListN.{length, take, replicate}
use Rattle.metafile.specs.declared.Row.{Row}
use Rattle.metafile.specs.Bytes.{bytes, same, find}
use Rattle.metafile.specs.Lines.{BIN}
use Rattle.metafile.specs.Header.{is_llc, mark_of}
use Rattle.metafile.specs.Chunk.{by_mark}
use Rattle.metafile.specs.Reading.{reading, rows_of}
use Rattle.metafile.specs.Answers.{result, Test, refuse, first_refusal, Outcome, placed, unless_refused}
use Rattle.metafile.specs.Append.{Given, no_row, new_chunk, first_end, second_end, third_end, append_tests, append}
use Rattle.metafile.specs.Cut.{CutPoint, remains}
use Rattle.metafile.specs.Demand.{Safe, Accepted, finished, Demand3}
use Rattle.metafile.proofs.Samples.{paper_serial, to_append, lent, begun_abab}
use Rattle.metafile.proofs.Cuts.{zeros, zero_marked, closing_given, two_lost, none_lost, cuts}
use Rattle.examples.proofs.Texts.{spaces, serial7, serial43, integrity_text, title_text, head_text, test_format, content_text, texts}

-- ---- append and demand 3 by other tests

abbrev pub Tests : Type 0
Tests = List ℕ → ℕ → Given → List Test

unfoldable pub append_by : Tests → List ℕ → ℕ → Given → Outcome
append_by tests buffer len g =
    let old : List ℕ = take len buffer in
    unless_refused (tests buffer len g) buffer
    (record {
      answer = result (first_end old g ∷ second_end old g ∷ third_end old g ∷ []);
      buffer = placed len (new_chunk old g) buffer;
    })

unfoldable pub Demand3By : Tests → Type 0
Demand3By tests =
    (buffer : List ℕ) (len : ℕ) (g : Given) (e₁ e₂ e₃ : ℕ)
    → (append_by tests buffer len g).answer ≡ result (e₁ ∷ e₂ ∷ e₃ ∷ [])
    → (cut : CutPoint) (table : List Row)
    → length (rows_of (take len buffer)) < length table
    → Safe
    (take len buffer)
    g
    e₁
    e₂
    e₃
    (take e₃ (append_by tests buffer len g).buffer)
    (remains (append_by tests buffer len g).buffer len e₁ e₂ e₃ cut)
    table

pub by_tests : Demand3By append_tests ≡ Demand3
unfolding Demand3By append_by Demand3 Accepted finished append
by_tests = refl

-- a test in place of the one with its number
unfoldable pub instead : Test → List Test → List Test
instead t [] = []
instead t (u ∷ us) = cond (eqb u.number t.number) (t ∷ us) (u ∷ instead t us)

-- ---- without 15

unfoldable pub without15 : Tests
without15 buffer len g = instead (refuse 15 false) (append_tests buffer len g)

unfoldable pub buffer : List ℕ
buffer = zero_marked ++ replicate 2000 7

unfoldable pub cut_left : List ℕ
cut_left =
    title_text "NUL130"
    ++ zeros 130
    ++ integrity_text serial7 "101"
    ++ zeros 130
    ++ head_text "000000000890" test_format "000000000029" "0000"
    ++ bytes "\n"
    ++ spaces 354
    ++ content_text "000000000000"
    ++ zeros 130
    ++ integrity_text serial43 "149"
    ++ zeros 130

pub refused-15 : first_refusal (append_tests buffer 579 closing_given) ≡ 15
unfolding texts cuts buffer
refused-15 = refl

pub old-reading : reading zero_marked ≡ record { rows = []; stop = 579; good = true; number = 0 }
unfolding texts cuts
old-reading = refl

pub left-reading :
    reading cut_left
    ≡ record {
      rows =
          record {
            serial = bytes serial43;
            place = 579;
            header = 922;
            contents = 1535;
            bytes = 0;
            end = 2049;
            dependencies = 0;
            offset = pos 80350000000;
            multichunk = false;
            good = true;
            ending = by_mark;
          }
          ∷ [];
      stop = 2049;
      good = true;
      number = 0;
    }
unfolding texts cuts cut_left
left-reading = refl

accepted-15 : (append_by without15 buffer 579 closing_given).answer ≡ result (1535 ∷ 2049 ∷ 2563 ∷ [])
unfolding texts append_by instead without15 cuts buffer
accepted-15 = refl

pub left_is : remains (append_by without15 buffer 579 closing_given).buffer 579 1535 2049 2563 two_lost ≡ cut_left
unfolding texts append_by instead without15 cuts buffer cut_left
left_is = refl

-- not the finished file, which has 2,563 bytes, and yet a row more
pub needs-15 : Demand3By without15 → ⊥
unfolding texts Demand3By append_by instead without15 cuts buffer
needs-15 d =
    let safe = d buffer 579 closing_given 1535 2049 2563 accepted-15 two_lost (no_row ∷ []) (lit< tt) in
    let one_more : ◌≡◌ {A = ℕ} 1 0 = safe.old-count (λ q. let same_length : ◌≡◌ {A = ℕ} 2049 2563 = ap length q in omega arith) in
    omega arith

-- ---- without the overlap

unfoldable pub without_overlap : Tests
without_overlap buffer len g =
    let old : List ℕ = take len buffer in
    let early : Bool = ltb (find (mark_of old) g.contents) (length g.contents) in
    instead (refuse 16 (g.is_open && (is_llc old || same g.description.generic BIN || early))) (append_tests buffer len g)

pub refused-16 : first_refusal (append_tests (lent begun_abab) 327 (to_append paper_serial (bytes "QAB") true)) ≡ 16
unfolding texts cuts
refused-16 = refl

accepted-16 : (append_by without_overlap (lent begun_abab) 327 (to_append paper_serial (bytes "QAB") true)).answer ≡ result (929 ∷ 932 ∷ 1194 ∷ [])
unfolding texts append_by instead without_overlap cuts
accepted-16 = refl

-- the finished file, and yet no new row
pub needs-overlap : Demand3By without_overlap → ⊥
unfolding texts Demand3By append_by instead without_overlap cuts
needs-overlap d =
    let safe = d (lent begun_abab) 327 (to_append paper_serial (bytes "QAB") true) 929 932 1194 accepted-16 none_lost (no_row ∷ []) (lit< tt) in
    let no_more : ◌≡◌ {A = ℕ} 0 1 = safe.new-count refl in
    omega arith
