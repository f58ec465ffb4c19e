-- The old file's header and mark, as the calls below give them.
--     number_is parts mark-..   a header without a fault; the mark lies inside the file and has at most 999 bytes
--     llc-found mark-room mark-found   the same of a header whose number is 0
-- Assumes nothing.
use Prim.Native.Nat.{ℕ, ◌+◌, ◌-◌, ◌≤◌}
use mathlib.Core.Path.{◌≡◌, sym, ◌∙◌}
use mathlib.Core.List.{List, [], ◌∷◌, ◌++◌}
use native.Mathlib.Omega.{arith}
use lib.ListN.{length, take, drop}
use lib.Seq.{drop-drop}
use lib.Dec.{leb}
use borrow.Author.Tests.{leb-true}
use Rattle.metafile.specs.Bytes.{part, is_zero}
use Rattle.metafile.specs.Fields.{is_count, count_value}
use Rattle.metafile.specs.Lines.{fixed, value, strategy, lf, lines_of, run, kind_fault, fault, count_fault, format_id, separator_strategy}
use Rattle.metafile.specs.Header.{is_llc, mark_of, header_fault, mark_length, title, title_fault}
use Rattle.laws.proofs.First.{⊳-left, ⊳-right, and_both, require-true, is_zero-zero}
use Rattle.laws.proofs.Table.{field-own, run_at}
use Rattle.laws.proofs.Distances.{lines}
use Rattle.chunk_laws.proofs.File.{header-whole, length-mark, fits-title}
use Rattle.walk.proofs.Stages.{mark-part, mark-inside, header-number, HeaderIs, header_is}
use Rattle.walk.specs.declared.answers.Header.{Header}
use Rattle.walk.specs.Walk.{header_of}
use Rattle.writer.proofs.Placed.{part-first}

-- ---- the header

module _ (file : List ℕ) (h : Header) (is : h ≡ header_of file) (e : header_fault file ≡ 0) where
  pub number_is : h.number ≡ 0
  number_is = header-number h file is ∙ e

  pub parts : HeaderIs h file
  parts = header_is h file is number_is

  pub mark-length : h.mark ≡ length (mark_of file)
  mark-length = parts.mark-is ∙ sym (length-mark file (header-whole file e))

  pub mark-fits : 65 + h.mark ≤ length file
  mark-fits = omega (arith, mark-inside file e h.mark parts.mark-is)

  -- the mark, as a part of the file
  mark-slice : take (65 + h.mark - 65) (drop 65 file) ≡ mark_of file
  mark-slice = mark-part file e h.mark parts.mark-is

  pub mark-whole : part 65 h.mark file ≡ mark_of file
  unfolding mark_of
  mark-whole = let long = parts.mark-is in rw long

-- the same of a header whose number is 0
module _ (file : List ℕ) (h : Header) (is : h ≡ header_of file) (z : h.number ≡ 0) where
  begun : header_fault file ≡ 0
  begun = sym (header-number h file is) ∙ z

  pub llc-found : h.llc ≡ is_llc file
  llc-found = (parts file h is begun).llc-is

  pub mark-room : 65 + h.mark ≤ length file
  mark-room = mark-fits file h is begun

  pub mark-found : take (65 + h.mark - 65) (drop 65 file) ≡ mark_of file
  mark-found = mark-slice file h is begun

-- ---- the mark

-- the mark length is a number of three digits
title-mark : (v : List ℕ) → title_fault v ≡ 0 → count_value (part 61 3 v) ≤ 999
unfolding title_fault title lines fault kind_fault count_fault
title-mark v e =
    let clear : run title v ≡ 0 = is_zero-zero _ (require-true (is_zero (run title v)) 0 (⊳-left _ _ e)) in
    let passed = run_at (lines_of (format_id ∷ []) ++ fixed separator_strategy.label ∷ []) (value strategy) (lf ∷ []) v clear in
    let digits = rw (drop-drop 3 58 v) at (field-own 3 (count_fault 999) (drop 3 (drop 58 v)) (⊳-right _ _ passed)) in
    leb-true _ _ (and_both (is_count (part 61 3 v)) (leb (count_value (part 61 3 v)) 999) (require-true _ 5 digits)).1

pub mark-small : (file : List ℕ) → header_fault file ≡ 0 → mark_length file ≤ 999
unfolding mark_length
mark-small file e =
    let w = header-whole file e in
    rw (part-first 61 3 65 file (omega arith) (fits-title file w)) (title-mark (take 65 file) (field-own 65 title_fault file w.in-title))
