-- The header of a chunk, as its functions read it ("Lines in order: ..", "A length is tested once ..").
--     multi-name          the sub-format of a MultiChunk
--     head-split head-begun head-long   the lines up to the dependency count
--     dependencies-below header-below offset-formed   what they say of their values
--     lengths-..          the answers on the two lengths; header-bytes-is: the header's bytes
--     dependencies-..     the loop over the dependencies
--     HeaderWhole         what a header without a fault says; head-refused: of one with a fault the number alone
-- Assumes nothing.
use Prim.Native.Nat.{ℕ, suc, ◌+◌, ◌-◌, ◌*◌, ◌≤◌, ◌<◌}
use mathlib.Core.Bool.{Bool, true, false, not, ◌||◌}
use mathlib.Core.Path.{◌≡◌, refl, sym, ap, ◌∙◌}
use mathlib.Core.List.{List, [], ◌∷◌, ◌++◌}
use native.Mathlib.Omega.{arith}
use lib.Dec.{leb, eqb}
use lib.ListN.{length, drop}
use borrow.Author.Tests.{leb-true, le-leb, lt-leb, eq-eqb, ne_eqb}
use Rattle.metafile.specs.Bytes.{bytes, part, ◌⊳◌, require, is_zero, same}
use Rattle.metafile.specs.Fields.{is_count, count_value, padded, is_offset}
use Rattle.metafile.specs.Lines.{count, offset, free, fixed, value, Line, lf, i12, i4, opened, lines_of, count_fault, offset_fault, kind_fault, fault, run, table, chunk_header_length, sub_format_id, generic_type, time_synch_type, time_standard, time_offset, dependency_count}
use Rattle.metafile.specs.Chunk.{head_lines, head, header_length, offset_bytes, dependencies, multi_name, is_multi, dependency_length_for, header_length_for, header_bytes_for, specific, lengths_fault, dependency_fields, specific_place, header_bytes, chunk_header_fault}
use Rattle.table.specs.Codes.{line_no, lines_from}
use Rattle.std.specs.declared.result.Result.{Result}
use Rattle.std.specs.declared.result.Result.TheVariants.{Ok, Err}
use Rattle.metafile.specs.declared.refusal.Refusal.{Refusal}
use Rattle.metafile.specs.Refusals.{number_of}
use Rattle.lines.specs.declared.reader.Refused.{Refused}
use Rattle.lines.specs.Parts.{field_no, Takes}
use Rattle.lines.proofs.Runs.{takes-stop, takes-fits, takes-go, takes-both, takes_first}
use Rattle.laws.proofs.First.{test, and_both, is_zero-zero, ⊳-left, ⊳-right, require-true}
use Rattle.laws.proofs.Table.{field-own, run-enough, run-split, run_at}
use Rattle.laws.proofs.Distances.{lines, size-head}
use Rattle.chunk_laws.proofs.Chunk.{size-free, size-behind-count}
use Rattle.laws.proofs.Stages.{fits}
use Rattle.chunk.specs.Layout.{Numbers, HeadOf}
use Rattle.chunk.proofs.Stages.{free-short, free-long}

-- ---- "If, and only if, SubFormat_ID is ADS\SYS\MultiChunk"

pub multi-name : (v : List ℕ) (b : Bool) → length v ≡ 256 → b ≡ same v (padded (length v) (bytes "ADS\\SYS\\MultiChunk")) → b ≡ same v multi_name
unfolding multi_name
multi-name v b h e = rw h at e

-- ---- the lines up to the dependency count

pub head-split : (s : List ℕ) → run head s ≡ run (lines_of (lines_from 0 8)) s ⊳ run (opened (line_no 8)) (drop 540 s)
unfolding head lines lines_from line_no table
head-split s = run-split (lines_of (lines_from 0 8)) (opened (line_no 8)) s

pub head-begun : (s : List ℕ) → run (lines_of (lines_from 0 8)) s ≡ 0 → 540 ≤ length s
unfolding lines lines_from table
head-begun s e = run-enough (lines_of (lines_from 0 8)) s e

count_most : (p n most : ℕ) (s : List ℕ) → fault (value (count n most)) (drop p s) ≡ 0 → count_value (part p n s) ≤ most
unfolding fault kind_fault count_fault
count_most p n most s e =
    let h = require-true _ 5 (field-own n (count_fault most) (drop p s) e) in
    leb-true _ _ (and_both (is_count (part p n s)) (leb (count_value (part p n s)) most) h).1

module _ (s : List ℕ) (e : run head s ≡ 0) where
  pub head-long : 567 ≤ length s
  head-long = rw size-head at (run-enough head s e)

  pub dependencies-below : dependencies s ≤ 9999
  unfolding dependencies head lines
  dependencies-below =
      count_most 563 4 9999 s (run_at (lines_of head_lines ++ fixed dependency_count.label ∷ []) (value i4) [] s e)

  pub header-below : header_length s ≤ 999999999999
  unfolding header_length head lines
  header-below = count_most 20 12 999999999999 s (run_at (fixed chunk_header_length.label ∷ []) (value i12) _ s e)

  pub offset-formed : is_offset (offset_bytes s) ≡ true
  unfolding offset_bytes head lines fault kind_fault offset_fault
  offset-formed =
      let before : List Line = chunk_header_length ∷ sub_format_id ∷ generic_type ∷ time_synch_type ∷ time_standard ∷ [] in
      let f : fault (value offset) (drop 426 s) ≡ 0 = run_at (lines_of before ++ fixed time_offset.label ∷ []) (value offset) _ s e in
      require-true _ 5 (field-own 16 offset_fault (drop 426 s) f)

-- ---- the two lengths: the numbers read are the dependency count n, the dependency length d, the header length h

module _ {s : List ℕ} {n d h : ℕ} (e : Numbers s n d h) where
  second : ℕ
  second = require (leb (536 + 344 * n + 0) h) 7

  third : ℕ
  third = require (not (is_multi s) || is_zero (h - (536 + 344 * n + 0))) 7

  lengths-are : require (eqb d (29 + 344 * n)) 7 ⊳ second ⊳ third ≡ lengths_fault s
  unfolding second third lengths_fault dependency_length_for header_length_for specific
  lengths-are = rw (e.n-is, e.d-is, e.h-is)

  pub lengths-wrong : (d ≡ 29 + 344 * n → ⊥) → 7 ≡ lengths_fault s
  unfolding require ◌⊳◌
  lengths-wrong k = rw (ne_eqb d (29 + 344 * n) k) at lengths-are

  module _ (k : d ≡ 29 + 344 * n) where
    lengths-second : second ⊳ third ≡ lengths_fault s
    unfolding require ◌⊳◌
    lengths-second = rw (eq-eqb d (29 + 344 * n) k) at lengths-are

    pub lengths_short : h < 536 + 344 * n → 7 ≡ lengths_fault s
    unfolding second require ◌⊳◌
    lengths_short l = rw (lt-leb (536 + 344 * n + 0) h (omega arith)) at lengths-second

    module _ (l : 536 + 344 * n ≤ h) where
      lengths-third : third ≡ lengths_fault s
      unfolding second require ◌⊳◌
      lengths-third = rw (le-leb (536 + 344 * n + 0) h (omega arith)) at lengths-second

      pub lengths-exact : h ≡ 536 + 344 * n → 0 ≡ lengths_fault s
      unfolding third require is_zero
      lengths-exact q =
          let z : h - (536 + 344 * n + 0) ≡ 0 = omega arith in
          test (is_multi s) (λ b. rw (b, z) at lengths-third) (λ b. rw b at lengths-third)

      pub lengths-plain : is_multi s ≡ false → 0 ≡ lengths_fault s
      unfolding third require
      lengths-plain b = rw b at lengths-third

      pub lengths-multi : (h ≡ 536 + 344 * n → ⊥) → is_multi s ≡ true → 7 ≡ lengths_fault s
      unfolding third require is_zero
      lengths-multi q b =
          test (is_zero (h - (536 + 344 * n + 0)))
          (λ z. absurd (q (omega (arith, is_zero-zero (h - (536 + 344 * n + 0)) z))))
          (λ z. rw (b, z) at lengths-third)

pub header-bytes-is : (s : List ℕ) → lengths_fault s ≡ 0 → header_bytes s ≡ header_length s + 32
unfolding lengths_fault header_bytes header_bytes_for specific header_length_for
header-bytes-is s e =
    bytes_of (dependencies s) (header_length s) (leb-true _ _ (require-true _ 6 (⊳-left _ _ (⊳-right _ _ e))))
  where
    bytes_of : (n h : ℕ) → 536 + 344 * n + 0 ≤ h → 568 + 344 * n + (h - (536 + 344 * n + 0)) ≡ h + 32
    bytes_of n h l = omega arith

-- ---- the dependencies

dependency-step : (n i : ℕ) → i < n → dependency_fields (n - i) ≡ lines_of (lines_from 9 2) ++ dependency_fields (n - (i + 1))
unfolding dependency_fields lines lines_from table
dependency-step n i h =
    let e : n - i ≡ suc (n - (i + 1)) = omega arith in
    rw e

-- the LF after the dependency count, which the field reader took
module _ {s : List ℕ} (n : ℕ) where
  pub dependencies-lf : {x : Refused} → Takes (field_no 8 2 ∷ []) 567 s (Err x) → number_of x.refusal ≡ run (lf ∷ dependency_fields n) (drop 567 s)
  unfolding field_no lines
  dependencies-lf {x = x} e = takes-stop (field_no 8 2 ∷ []) (dependency_fields n) s 567 x e

  module _ {p : ℕ} (e : Takes (field_no 8 2 ∷ []) 567 s (Ok p)) where
    pub dependencies-begun : run (lf ∷ dependency_fields n) (drop 567 s) ≡ run (dependency_fields n) (drop p s)
    unfolding field_no lines
    dependencies-begun = sym (takes-go (field_no 8 2 ∷ []) (dependency_fields n) s 567 p e)

    pub dependencies-first : 567 ≤ length s → p ≤ length s
    dependencies-first h = takes-fits (field_no 8 2 ∷ []) [] s 567 p e h

-- a dependency: its two lines
dependency-is : lines_of (lines_from 9 2) ≡ lines_of (line_no 9 ∷ []) ++ lines_of (line_no 10 ∷ [])
unfolding lines lines_from line_no table
dependency-is = refl

module _ {s : List ℕ} {at : ℕ} where
  pub serial-stop : {x y : Refused} → Takes (lines_of (line_no 9 ∷ [])) at s (Err x) → y.refusal ≡ x.refusal → y.behind ≡ at + 344 → Takes (lines_of (lines_from 9 2)) at s (Err y)
  unfolding lines lines_from line_no table
  serial-stop {x = x} {y = y} e f w = takes_first (lines_of (line_no 9 ∷ [])) (lines_of (line_no 10 ∷ [])) s at x y e f w

  pub serial-go : {p : ℕ} → Takes (lines_of (line_no 9 ∷ [])) at s (Ok p) → {q : Result ℕ Refused} → Takes (lines_of (line_no 10 ∷ [])) p s q → Takes (lines_of (lines_from 9 2)) at s q
  serial-go {p = p} e {q = q} f = rw dependency-is (takes-both (lines_of (line_no 9 ∷ [])) (lines_of (line_no 10 ∷ [])) s at p e q f)

-- a dependency at a place, i of n passed
module _ {s : List ℕ} {all at n i : ℕ} (h : i < n) (total : all ≡ run (dependency_fields (n - i)) (drop at s)) where
  pub dependencies-stop : {x : Refused} → Takes (lines_of (lines_from 9 2)) at s (Err x) → number_of x.refusal ≡ all
  dependencies-stop {x = x} e =
      takes-stop (lines_of (lines_from 9 2)) (dependency_fields (n - (i + 1))) s at x e
      ∙ sym (total ∙ ap (λ fs. run fs (drop at s)) (dependency-step n i h))

  module _ {p : ℕ} (e : Takes (lines_of (lines_from 9 2)) at s (Ok p)) where
    pub dependencies-fit : at ≤ length s → p ≤ length s
    dependencies-fit k = takes-fits (lines_of (lines_from 9 2)) [] s at p e k

    pub dependencies-next : all ≡ run (dependency_fields (n - (i + 1))) (drop p s)
    dependencies-next =
        total
        ∙ ap (λ fs. run fs (drop at s)) (dependency-step n i h)
        ∙ sym (takes-go (lines_of (lines_from 9 2)) (dependency_fields (n - (i + 1))) s at p e)

pub dependencies-end : (s : List ℕ) (all at left : ℕ) → left ≡ 0 → all ≡ run (dependency_fields left) (drop at s) → 0 ≡ all
unfolding dependency_fields run
dependencies-end s all at left z e = sym (rw z at e)

pub dependencies-are : (s : List ℕ) (n f : ℕ) → n ≡ dependencies s → f ≡ run (lf ∷ dependency_fields n) (drop 567 s) → f ≡ run (lf ∷ dependency_fields (dependencies s)) (drop 567 s)
dependencies-are s n f en e = rw en at e

pub dependencies-long : (n : ℕ) (s : List ℕ) → 567 ≤ length s → run (lf ∷ dependency_fields n) (drop 567 s) ≡ 0 → 568 + 344 * n ≤ length s
dependencies-long n s h e =
    omega (arith, fits (lf ∷ dependency_fields n) (1 + 344 * n) 567 s (size-behind-count n) h e)

-- ---- the specific data: they end where the header does

module _ (s : List ℕ) (h : 568 + 344 * dependencies s ≤ length s) where
  pub specific-short : length s < header_bytes s → 4 ≡ run (value (free (specific s)) ∷ []) (drop (specific_place s) s)
  unfolding specific_place header_bytes header_bytes_for
  specific-short l = free-short (568 + 344 * dependencies s + 0) (specific s) s (omega arith) (omega arith)

  pub specific-whole : header_bytes s ≤ length s → 0 ≡ run (value (free (specific s)) ∷ []) (drop (specific_place s) s)
  unfolding specific_place header_bytes header_bytes_for
  specific-whole l = free-long (568 + 344 * dependencies s + 0) (specific s) s (omega arith)

-- ---- a header without a fault

pub record HeaderWhole (s : List ℕ) : Type 0 where
  pub in_head : run head s ≡ 0
  pub in-lengths : lengths_fault s ≡ 0
  pub long : 567 ≤ length s
  pub inside : header_bytes s ≤ length s

pub header-whole : (s : List ℕ) → chunk_header_fault s ≡ 0 → HeaderWhole s
unfolding chunk_header_fault specific_place header_bytes header_bytes_for
header-whole s e =
    let e2 = ⊳-right _ _ e in
    let e3 = ⊳-right _ _ e2 in
    let l = head-long s (⊳-left _ _ e) in
    let d = dependencies-long (dependencies s) s l (⊳-left _ _ e3) in
    let f = fits (value (free (specific s)) ∷ []) (specific s) (specific_place s) s (size-free (specific s)) (omega arith) (⊳-right _ _ e3) in
    record { in_head = ⊳-left _ _ e; in-lengths = ⊳-left _ _ e2; long = l; inside = omega arith }

pub head-refused : {s : List ℕ} (x : Refusal) → number_of x ≡ chunk_header_fault s → HeadOf (Err x) s
head-refused x e = record { fault = e; bytes-are = tt; count-is = tt }
