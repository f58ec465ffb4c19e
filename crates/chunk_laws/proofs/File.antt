-- The file header, and a reading of the whole file ("File header", "Reading").
--     HeaderWhole, header-whole      the header's stages; fits-header_end: it lies inside the file
--     ..-local                       with more bytes behind, mark, strategy, end and sum are the same
--     read-begun read-unbegun        a reading of a file whose header is whole, or isn't
--     clean-parts clean-header       what a clean file is; its header is whole
--     file-goes-on                   a clean file with more bytes behind has the old rows, and goes on at the old end
--     file-rows file-reading         n rows lent: the first n rows; where they hold all rows, the reading with rows enough
--     file-few                       a row takes 856 bytes
-- Assumes nothing.
use Prim.Native.Nat.{ℕ, zero, suc, ◌+◌, ◌*◌, ◌≤◌, ◌<◌}
use mathlib.Core.Bool.{true, false, ◌&&◌}
use mathlib.Core.Path.{◌≡◌, refl, sym, ap, ◌∙◌}
use mathlib.Core.List.{List, [], ◌++◌}
use native.Mathlib.Omega.{arith}
use lib.Dec.{ltb, eqb}
use lib.ListN.{length, take, drop, length-drop}
use lib.Seq.{take-append-le, drop-append-le, length-take-le, take-nil}
use borrow.Author.Tests.{ltb-true, eqb-true}
use Rattle.metafile.specs.Bytes.{is_zero}
use Rattle.metafile.specs.Fields.{count_value}
use Rattle.metafile.specs.Lines.{field_fault, run}
use Rattle.metafile.specs.Closing.{closing, sum_place, closing_end, sum_good}
use Rattle.metafile.specs.Header.{is_llc, mark_length, mark_of, title_fault, mark_fault, header_fault, header_end, header_good}
use Rattle.metafile.specs.Reading.{Rows, halt, onto, read_rows, Reading, with_header, unbegun, read_file, reading, rows_of, is_clean}
use Rattle.laws.proofs.First.{cases, and_both, ⊳-left, ⊳-right, ⊳-both, choose-go, choose-stop}
use Rattle.laws.proofs.Lists.{part-local}
use Rattle.laws.proofs.Table.{field-enough, field-local, run-enough}
use Rattle.laws.proofs.Distances.{size-closing}
use Rattle.chunk_laws.proofs.Types.{stretch-local}
use Rattle.chunk_laws.proofs.Rows.{past, Goes_on, goes_on}
use Rattle.chunk_laws.proofs.Enough.{fewer-rows, rows-lent, rows_few}

-- ---- the header

pub record HeaderWhole (file : List ℕ) : Type 0 where
  pub in-title : field_fault 65 title_fault file ≡ 0
  pub in-mark : field_fault (mark_length file) mark_fault (drop 65 file) ≡ 0
  pub in-closing : run (closing (mark_of file)) (drop 65 file) ≡ 0

pub header-whole : (file : List ℕ) → header_fault file ≡ 0 → HeaderWhole file
unfolding header_fault
header-whole file e =
    let e2 = ⊳-right _ _ e in
    record { in-title = ⊳-left _ _ e; in-mark = ⊳-left _ _ e2; in-closing = ⊳-right _ _ e2 }

module _ (file : List ℕ) (w : HeaderWhole file) where
  pub fits-title : 65 ≤ length file
  fits-title = field-enough 65 title_fault file w.in-title

  fits-mark : 65 + mark_length file ≤ length file
  fits-mark =
      let h = simp length-drop at (field-enough (mark_length file) mark_fault (drop 65 file) w.in-mark) in
      omega (arith, fits-title)

  pub length-mark : length (mark_of file) ≡ mark_length file
  unfolding mark_of
  length-mark = length-take-le (mark_length file) (drop 65 file) (simp length-drop (omega (arith, fits-mark)))

  pub fits-header_end : header_end file ≤ length file
  unfolding header_end closing_end
  fits-header_end =
      let h = simp (length-drop, size-closing) at (run-enough (closing (mark_of file)) (drop 65 file) w.in-closing) in
      omega (arith, fits-title)

pub header_end-least : (file : List ℕ) → 319 ≤ header_end file
unfolding header_end closing_end
header_end-least file = omega arith

-- ---- more bytes behind

module _ (s t : List ℕ) (w : HeaderWhole s) where
  pub is_llc-local : is_llc (s ++ t) ≡ is_llc s
  unfolding is_llc
  is_llc-local = rw (part-local 58 3 s t (omega (arith, fits-title s w)))

  mark_length-local : mark_length (s ++ t) ≡ mark_length s
  unfolding mark_length
  mark_length-local = ap count_value (part-local 61 3 s t (omega (arith, fits-title s w)))

  pub mark_of-local : mark_of (s ++ t) ≡ mark_of s
  unfolding mark_of
  mark_of-local = rw mark_length-local (part-local 65 (mark_length s) s t (fits-mark s w))

  pub header_end-local : header_end (s ++ t) ≡ header_end s
  unfolding header_end
  header_end-local = rw mark_of-local

  pub header_good-local : header_good (s ++ t) ≡ header_good s
  unfolding header_good sum_good sum_place header_end closing_end
  header_good-local =
      let place : ℕ = 65 + length (mark_of s) + 250 in
      let inside : place ≤ length s = omega (arith, fits-header_end s w) in
      rw (mark_of-local, take-append-le place s t inside, part-local place 3 s t (omega (arith, fits-header_end s w)))

  pub header_fault-local : header_fault (s ++ t) ≡ 0
  unfolding header_fault
  header_fault-local =
      ⊳-both _ _ (field-local 65 title_fault s t (fits-title s w) ∙ w.in-title)
      (⊳-both _ _
      (rw (mark_length-local, drop-append-le 65 s t (fits-title s w))
      (field-local (mark_length s) mark_fault (drop 65 s) t (field-enough _ _ _ w.in-mark) ∙ w.in-mark))
      (rw mark_of-local (stretch-local _ 65 s t (fits-title s w) w.in-closing)))

-- ---- a reading of the file

-- the rows behind the header
unfoldable pub rows_behind : ℕ → List ℕ → Rows
rows_behind n file = read_rows n (is_llc file) (mark_of file) [] (header_end file) (drop (header_end file) file)

pub read-begun : (n : ℕ) (file : List ℕ) → header_fault file ≡ 0 → read_file n file ≡ with_header (header_good file) (rows_behind n file)
unfolding read_file rows_behind
read-begun n file e = choose-go (header_fault file) _ _ e

pub read-unbegun : (n : ℕ) (file : List ℕ) → (header_fault file ≡ 0 → ⊥) → read_file n file ≡ with_header false (halt 0 (unbegun (length file) (header_fault file)))
unfolding read_file
read-unbegun n file e = choose-stop (header_fault file) _ _ e

-- of a file that has bytes the number is the header's fault
pub unbegun-some : (long k : ℕ) → 0 < long → unbegun long k ≡ k
unfolding unbegun is_zero
unbegun-some zero k some = absurd (omega arith)
unbegun-some (suc n) k some = refl

-- some bytes and number 0: the header is whole
pub clean-begun : (n : ℕ) (file : List ℕ) → 0 < length file → (read_file n file).number ≡ 0 → header_fault file ≡ 0
unfolding with_header halt
clean-begun n file some z =
    cases (header_fault file) (λ e. e)
    (λ j e. absurd (omega (arith, e, unbegun-some (length file) (header_fault file) some, rw (read-unbegun n file (λ q. absurd (omega arith))) at z)))

pub clean-parts : (file : List ℕ) → is_clean file (reading file) ≡ true
    → (0 < length file) × ((reading file).number ≡ 0) × ((reading file).stop ≡ length file)
unfolding is_clean
clean-parts file e =
    let h = and_both (ltb 0 (length file) && eqb (reading file).number 0) (eqb (reading file).stop (length file)) e in
    let k = and_both (ltb 0 (length file)) (eqb (reading file).number 0) h.0 in
    (ltb-true _ _ k.0, eqb-true _ _ k.1, eqb-true _ _ h.1)

pub clean-header : (file : List ℕ) → is_clean file (reading file) ≡ true → header_fault file ≡ 0
unfolding reading
clean-header file e =
    let h = clean-parts file e in
    clean-begun (length file) file h.0 h.1

pub header-cases : {A : Type 0} (file : List ℕ) → (header_fault file ≡ 0 → A) → ((header_fault file ≡ 0 → ⊥) → A) → A
header-cases file f g = cases (header_fault file) f (λ j e. g (λ q. omega arith))

-- the bytes behind the header are not more than the file's
behind-less : (file : List ℕ) → length (drop (header_end file) file) ≤ length file
behind-less file = simp length-drop (omega arith)

-- the reading with rows enough, by its parts
pub rows-begun : (file : List ℕ) → header_fault file ≡ 0 → rows_of file ≡ (rows_behind (length file) file).rows
unfolding rows_of reading with_header
rows-begun file e = ap (λ (r : Reading). r.rows) (read-begun (length file) file e)

pub good-begun : (file : List ℕ) → header_fault file ≡ 0 → (reading file).good ≡ header_good file
unfolding reading with_header
good-begun file e = rw (read-begun (length file) file e)

number-begun : (file : List ℕ) → header_fault file ≡ 0 → (reading file).number ≡ (rows_behind (length file) file).number
unfolding reading with_header
number-begun file e = rw (read-begun (length file) file e)

pub rows-unbegun : (file : List ℕ) → (header_fault file ≡ 0 → ⊥) → rows_of file ≡ []
unfolding rows_of reading with_header halt
rows-unbegun file e = ap (λ (r : Reading). r.rows) (read-unbegun (length file) file e)

pub file-rows : (n : ℕ) (file : List ℕ) → (read_file n file).rows ≡ take n (rows_of file)
unfolding with_header halt rows_behind
file-rows n file =
    header-cases file
    (λ e. rw (read-begun n file e, rows-begun file e) (fewer-rows (is_llc file) (mark_of file) (length file) n [] (header_end file) _ (behind-less file)))
    (λ e. rw (read-unbegun n file e, rows-unbegun file e) (sym (take-nil n)))

pub file-reading : (n : ℕ) (file : List ℕ) → length (rows_of file) ≤ n → read_file n file ≡ reading file
unfolding reading rows_behind
file-reading n file h =
    header-cases file
    (λ e.
    let few = rw (rows-begun file e) at h in
    rw (read-begun n file e, read-begun (length file) file e)
    (ap (with_header (header_good file)) (rows-lent (is_llc file) (mark_of file) (length file) n [] (header_end file) _ (behind-less file) few)))
    (λ e. read-unbegun n file e ∙ sym (read-unbegun (length file) file e))

-- a row takes 856 bytes at least, behind the header
pub file-few : (file : List ℕ) → 856 * length (rows_of file) ≤ length file
unfolding rows_behind
file-few file =
    header-cases file
    (λ e.
    let h = rows_few (is_llc file) (mark_of file) (length file) [] (header_end file) (drop (header_end file) file) in
    rw (rows-begun file e) (omega (arith, h, behind-less file)))
    (λ e. rw (rows-unbegun file e) (omega arith))

-- a clean file with more bytes behind has the old rows, and goes on at the old end
pub file-goes-on : (old t : List ℕ) (n : ℕ) → 0 < length old → (reading old).number ≡ 0
    → read_file (length (rows_of old) + n) (old ++ t)
    ≡ with_header (reading old).good (onto (rows_of old) (read_rows n (is_llc old) (mark_of old) (past (rows_of old) []) (length old) t))
unfolding rows_behind Goes_on
file-goes-on old t n some z =
    let e = clean-begun (length old) old some (unfold reading in z) in
    let w = header-whole old e in
    let end : header_end old + length (drop (header_end old) old) ≡ length old = simp length-drop (omega (arith, fits-header_end old w)) in
    let going = goes_on (is_llc old) (mark_of old) (length old) [] (header_end old) (drop (header_end old) old) (rw (number-begun old e) at z) n t in
    rw (
      rows-begun old e,
      good-begun old e,
      read-begun _ (old ++ t) (header_fault-local old t w),
      header_good-local old t w,
      is_llc-local old t w,
      mark_of-local old t w,
      header_end-local old t w,
      drop-append-le (header_end old) old t (fits-header_end old w),
      going,
      end,
    )
