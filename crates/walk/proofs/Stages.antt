-- The file header's stages, as the functions answer them ("File header"; "1 first 65 bytes don't match", "2 NUL000",
-- "3 mark begins "MiniChunk="", "4 bytes end too soon").
--     faulted unfaulted   a fault, by Result
--     title-..    the first 65 bytes; mark-..: the mark as a field; stage-..: the header's first fault
--     header-..   what the header answers; HeaderIs: one without a fault
-- Assumes nothing.
use Prim.Native.Nat.{ℕ, suc, ◌+◌, ◌-◌, ◌≤◌, ◌<◌}
use mathlib.Core.Bool.{Bool, true, false, not, ◌||◌}
use mathlib.Core.Path.{◌≡◌, refl, sym, ap, ◌∙◌}
use mathlib.Core.List.{List}
use native.Mathlib.Omega.{arith}
use lib.ListN.{length, take, drop, length-drop}
use Rattle.std.specs.Prelude.{is_err}
use Rattle.std.specs.declared.result.Result.{Result}
use Rattle.std.specs.declared.result.Result.TheVariants.{Ok, Err}
use Rattle.metafile.specs.declared.refusal.Refusal.{Refusal}
use Rattle.metafile.specs.Refusals.{fault_in}
use Rattle.metafile.specs.Bytes.{part, ◌⊳◌, require, is_zero, same, starts, sum}
use Rattle.metafile.specs.Fields.{count_value}
use Rattle.metafile.specs.Lines.{LLC, lines_of, field_fault, run, table}
use Rattle.metafile.specs.Closing.{closing, closing_end, sum_good}
use Rattle.metafile.specs.Multi.{mini_label}
use Rattle.metafile.specs.Header.{title, is_llc, mark_length, mark_of, title_fault, mark_fault, header_fault, header_end, header_good}
use Rattle.table.specs.Codes.{lines_from}
use Rattle.laws.proofs.First.{cases, untrue, is_zero-is, is_zero-not, ⊳-stop, ⊳-go, require-met, require-unmet, choose-go, choose-stop}
use Rattle.laws.proofs.Loops.{part-drop}
use Rattle.laws.proofs.Table.{field-short, field-long, field-enough}
use Rattle.laws.proofs.Distances.{lines}
use Rattle.chunk_laws.proofs.File.{header-whole, length-mark, fits-header_end}
use Rattle.walk.specs.declared.answers.Header.{Header}
use Rattle.lines.specs.Words.{word_no}
use Rattle.lines.proofs.Runs.{refused}
use Rattle.walk.specs.Walk.{header_of}

-- ---- a fault, by Result

pub faulted : {A : Type 0} (r : Result A Refusal) → is_err r ≡ true → fault_in r ≡ 0 → ⊥
faulted (Ok a) e = untrue e
faulted (Err x) e = refused x

pub unfaulted : {A : Type 0} (r : Result A Refusal) → is_err r ≡ false → fault_in r ≡ 0
unfaulted (Ok a) e = refl
unfaulted (Err x) e = untrue (sym e)

-- ---- the first 65 bytes

-- they are lines 22 and 23 of the table
title-is : title ≡ lines_of (lines_from 22 2)
unfolding title lines lines_from table
title-is = refl

-- word 0 is LLC
llc-is : word_no 0 ≡ LLC
unfolding word_no
llc-is = refl

pub is_llc-is : (file : List ℕ) → same (part 58 3 file) (word_no 0) ≡ is_llc file
unfolding is_llc
is_llc-is file = ap (same (part 58 3 file)) llc-is

module _ (v : List ℕ) (f : ℕ) (run_is : f ≡ run (lines_of (lines_from 22 2)) v) where
  pub title-wrong : (f ≡ 0 → ⊥) → 1 ≡ title_fault v
  unfolding title_fault
  title-wrong n = rw (title-is, sym run_is, is_zero-not f n, require-unmet false 1 refl) (sym (⊳-stop 1 _ (λ q. omega arith)))

  module _ (z : f ≡ 0) where
    title-right : title_fault v ≡ require (is_llc v || not (is_zero (mark_length v))) 2
    unfolding title_fault
    title-right = rw (title-is, sym run_is, is_zero-is f z, require-met true 1 refl) (⊳-go 0 _ refl)

    pub title-llc : (b : Bool) → b ≡ same (part 58 3 v) (word_no 0) → b ≡ true → 0 ≡ title_fault v
    title-llc b is y = sym (title-right ∙ require-met _ 2 (rw (sym (is_llc-is v), sym is, y)))

    pub title-tape : (b : Bool) → b ≡ same (part 58 3 v) (word_no 0) → b ≡ false → (n : ℕ) → n ≡ count_value (part 61 3 v) → n ≡ 0 → 2 ≡ title_fault v
    unfolding mark_length
    title-tape b is y n count zn = sym (title-right ∙ require-unmet _ 2 (rw (sym (is_llc-is v), sym is, y, sym count, is_zero-is n zn)))

    pub title-counted : (b : Bool) → b ≡ same (part 58 3 v) (word_no 0) → b ≡ false → (n : ℕ) → n ≡ count_value (part 61 3 v) → (n ≡ 0 → ⊥) → 0 ≡ title_fault v
    unfolding mark_length
    title-counted b is y n count zn = sym (title-right ∙ require-met _ 2 (rw (sym (is_llc-is v), sym is, y, sym count, is_zero-not n zn)))

-- ---- the mark

module _ (n : ℕ) (r : List ℕ) where
  pub mark-short : length r < n → 4 ≡ field_fault n mark_fault r
  mark-short h = sym (field-short n mark_fault r h)

  module _ (h : n ≤ length r) (b : Bool) (is : b ≡ starts mini_label (take n r)) where
    pub mark-mini : b ≡ true → 3 ≡ field_fault n mark_fault r
    unfolding mark_fault
    mark-mini y = sym (field-long n mark_fault r h ∙ rw (sym is, y) (require-unmet false 3 refl))

    pub mark-good : b ≡ false → 0 ≡ field_fault n mark_fault r
    unfolding mark_fault
    mark-good y = sym (field-long n mark_fault r h ∙ rw (sym is, y) (require-met true 3 refl))

-- ---- the header's first fault

module _ (file : List ℕ) where
  pub stage-short : length file < 65 → 4 ≡ header_fault file
  unfolding header_fault
  stage-short h = rw (field-short 65 title_fault file h) (sym (⊳-stop 4 _ (λ q. omega arith)))

  module _ (h : 65 ≤ length file) (f : ℕ) (title-fault : f ≡ title_fault (take 65 file)) where
    pub stage-title : (f ≡ 0 → ⊥) → f ≡ header_fault file
    unfolding header_fault
    stage-title n = rw (field-long 65 title_fault file h, sym title-fault) (sym (⊳-stop f _ n))

    module _ (z : f ≡ 0) (n : ℕ) (count : n ≡ mark_length file) (g : ℕ) (mark-fault : g ≡ field_fault n mark_fault (take (length file - 65) (drop 65 file))) where
      stage-behind : header_fault file ≡ g ⊳ run (closing (mark_of file)) (drop 65 file)
      unfolding header_fault
      stage-behind =
          rw (field-long 65 title_fault file h, sym title-fault, ⊳-go f _ z, sym count)
          (ap (λ (k : ℕ). k ⊳ run (closing (mark_of file)) (drop 65 file)) (sym (mark-fault ∙ rw (part-drop file 65))))

      pub stage-mark : (g ≡ 0 → ⊥) → g ≡ header_fault file
      stage-mark y = sym (stage-behind ∙ ⊳-stop g _ y)

      pub stage-fits : g ≡ 0 → 65 + n ≤ length file
      stage-fits y =
          let k = simp length-drop at (field-enough n mark_fault (drop 65 file) (sym (mark-fault ∙ rw (part-drop file 65)) ∙ y)) in
          omega arith

      pub stage-closing : g ≡ 0 → (k : ℕ) → k ≡ run (closing (take (65 + n - 65) (drop 65 file))) (drop 65 file) → k ≡ header_fault file
      unfolding mark_of
      stage-closing y k last =
          let long : 65 + n - 65 ≡ n = omega arith in
          sym (stage-behind ∙ ⊳-go g _ y ∙ rw (sym count) (sym (rw long at last)))

-- ---- what the header answers

pub header-faulty : (file : List ℕ) (n : ℕ) → n ≡ header_fault file → (n ≡ 0 → ⊥)
    → record { number = n; end = 0; mark = 0; llc = false; good = false } ≡ header_of file
unfolding header_of
header-faulty file n is y =
    sym (choose-stop (header_fault file) _ _ (λ q. y (is ∙ q)) ∙ rw (sym is))

-- n bytes of mark behind a whole title
module _ (file : List ℕ) (z : header_fault file ≡ 0) (n : ℕ) (count : n ≡ mark_length file) where
  pub mark-part : take (65 + n - 65) (drop 65 file) ≡ mark_of file
  unfolding mark_of
  mark-part = let long : 65 + n - 65 ≡ n = omega arith in rw (long, count)

  pub mark-inside : 65 + n + 254 + n ≤ length file
  unfolding header_end closing_end
  mark-inside =
      let w = header-whole file z in
      omega (arith, fits-header_end file w, length-mark file w)

  pub sum_inside : 65 + length (take (65 + n - 65) (drop 65 file)) + 254 ≤ length file
  unfolding header_end closing_end
  sum_inside = rw mark-part (omega (arith, fits-header_end file (header-whole file z)))

  pub header-unfaulted : (llc good : Bool) → llc ≡ same (part 58 3 file) (word_no 0) → good ≡ sum_good 65 (take (65 + n - 65) (drop 65 file)) file
      → record { number = 0; end = 65 + n + 254 + n; mark = n; llc = llc; good = good } ≡ header_of file
  unfolding header_of header_end closing_end header_good
  header-unfaulted llc good is sum =
      let long : length (mark_of file) ≡ n = length-mark file (header-whole file z) ∙ sym count in
      sym (choose-go (header_fault file) _ _ z ∙ rw (long, ← count, ← is_llc-is file, ← is, ← mark-part, ← sum))

pub header-number : (h : Header) (file : List ℕ) → h ≡ header_of file → h.number ≡ header_fault file
unfolding header_of
header-number h file is =
    ap (λ (x : Header). x.number) is
    ∙ cases (header_fault file)
    (λ e. rw e (ap (λ (x : Header). x.number) (choose-go 0 _ _ refl)))
    (λ k e. rw e (ap (λ (x : Header). x.number) (choose-stop (suc k) _ _ (λ q. omega arith))))

-- a header without a fault
pub record HeaderIs (h : Header) (file : List ℕ) : Type 0 where
  pub whole : header_fault file ≡ 0
  pub end_is : h.end ≡ header_end file
  pub mark-is : h.mark ≡ mark_length file
  pub llc-is : h.llc ≡ is_llc file
  pub good-is : h.good ≡ header_good file

pub header_is : (h : Header) (file : List ℕ) → h ≡ header_of file → h.number ≡ 0 → HeaderIs h file
unfolding header_of
header_is h file is z =
    cases (header_fault file)
    (λ e.
    let all = is ∙ choose-go (header_fault file) _ _ e in
    record {
      whole = e;
      end_is = ap (λ (x : Header). x.end) all;
      mark-is = ap (λ (x : Header). x.mark) all;
      llc-is = ap (λ (x : Header). x.llc) all;
      good-is = ap (λ (x : Header). x.good) all;
    })
    (λ k e.
    let all = is ∙ choose-stop (header_fault file) _ _ (λ q. omega arith) in
    absurd (omega (arith, ap (λ (x : Header). x.number) all)))
