-- What begin wrote reads cleanly: no fault, no row, the stop at its end, the header's sum good. The header is the 65
-- bytes and their closing, so this rests on the round trip of the table and on the laws of the closing.
--     begun-length   319 and twice the mark
--     begun-reading  the reading of a begun file, into any number of rows
-- Assumes nothing.
use Prim.Native.Nat.{ℕ, zero, suc, ◌+◌, ◌*◌, ◌≤◌}
use mathlib.Core.Bool.{Bool, true, false, not, ◌&&◌, ◌||◌}
use mathlib.Core.Path.{◌≡◌, refl, sym, ap, ◌∙◌}
use mathlib.Core.List.{List, [], ◌∷◌, ◌++◌, append_assoc, append-nil, append_cancel_left}
use native.Mathlib.Omega.{arith}
use lib.Dec.{ltb}
use lib.ListN.{length, take, drop, length-append}
use lib.Seq.{take_at, drop_at, drop-length, take-append_seam, take-take, take-add, drop-drop}
use borrow.Author.Tests.{ltb-false, not-false, not-true}
use Rattle.metafile.specs.Bytes.{part, is_zero, is_empty, same, member, starts}
use Rattle.metafile.specs.Fields.{digits_of}
use Rattle.metafile.specs.Lines.{LLC, NUL, strategy, Field, fixed, value, lf, lines_of, format_id, separator_strategy, kind_fault, fault, word_fault, field_fault, run, first_of, others_of, put, left, write, formed}
use Rattle.metafile.specs.Closing.{integrity_lines, integrity_values, closing, closing_end, summed, summed_bytes, closing_bytes}
use Rattle.metafile.specs.Header.{title, is_llc, mark_length, mark_of, title_fault, mark_fault, header_fault, header_end, header_good}
use Rattle.metafile.specs.Multi.{mini_label}
use Rattle.metafile.specs.Reading.{halt, with_header, read_rows, read_file}
use Rattle.metafile.specs.Answers.{result, first_refusal, Outcome, placed}
use Rattle.metafile.specs.Begin.{BeginGiven, title_values, title_bytes, begun_file, begin_formed, begin_tests, begin}
use Rattle.laws.proofs.First.{untrue, and_both, or-true, or_left, or_right, ⊳-left, ⊳-both, require-met, require-true, choose-go}
use Rattle.laws.proofs.Digits.{count_value-digits_of, length-digits_of}
use Rattle.laws.proofs.Table.{field-long, field-own, formed-width, formed-fault, formed-split, write-size, write-run, write-at, lefts}
use Rattle.laws.proofs.Loops.{placed-start}
use Rattle.laws.proofs.Distances.{lines, size-title}
use Rattle.laws.proofs.Closed.{closed-length, closed_run, closed-good}
use Rattle.laws.proofs.Accepted.{refusal-none, accepted-none, accepted-is}

-- ---- what acceptance says

pub record BeginTaken (b : BeginGiven) (buffer : List ℕ) : Type 0 where
  pub in-title : formed title (title_values b) ≡ true
  pub mark-fits : length b.mark ≤ 999
  pub in-integrity : formed (lines_of integrity_lines) (integrity_values b.integrity) ≡ true
  pub not-tape : (same b.strategy NUL && is_empty b.mark) ≡ false
  pub not-mini : starts mini_label b.mark ≡ false
  pub room : length (begun_file b) ≤ length buffer

pub begin-taken : (b : BeginGiven) (buffer : List ℕ) → first_refusal (begin_tests b buffer) ≡ 0 → BeginTaken b buffer
unfolding begin_tests begin_formed
begin-taken b buffer e =
    let fits : Bool = not (ltb 999 (length b.mark)) in
    let inside : Bool = formed (lines_of integrity_lines) (integrity_values b.integrity) in
    let h11 = refusal-none 10 _ _ e in
    let h6 = refusal-none 5 _ _ h11.1 in
    let h2 = refusal-none 1 _ _ h6.1 in
    let h3 = refusal-none 2 _ _ h2.1 in
    let h15 = refusal-none 14 _ _ h3.1 in
    let h18 = refusal-none 17 _ _ h15.1 in
    let f = and_both (formed title (title_values b) && fits) inside (not-false _ h6.0) in
    let t = and_both (formed title (title_values b)) fits f.0 in
    record {
      in-title = t.0;
      mark-fits = ltb-false 999 (length b.mark) (not-true _ t.1);
      in-integrity = f.1;
      not-tape = h2.0;
      not-mini = h3.0;
      room = ltb-false _ _ h18.0;
    }

-- LLC, or NUL with a mark of some bytes
some_bytes : (v : List ℕ) → is_empty v ≡ false → not (is_zero (length v)) ≡ true
unfolding is_empty is_zero
some_bytes [] e = untrue (sym e)
some_bytes (x ∷ xs) e = refl

llc-or-mark : (w v : List ℕ) → member w (LLC ∷ NUL ∷ []) ≡ true → (same w NUL && is_empty v) ≡ false → (same w LLC || not (is_zero (length v))) ≡ true
unfolding member
llc-or-mark w v e f =
    or-true (same w LLC) (same w NUL || false) e
    (λ p. or_left (same w LLC) _ p)
    (λ p. or-true (same w NUL) false p (λ q. or_right (same w LLC) _ (some_bytes v (rw q at f))) (λ q. untrue q))

-- ---- the file that was begun

module _ (b : BeginGiven) (buffer : List ℕ) (a : BeginTaken b buffer) where
  closed : List ℕ
  closed = closing_bytes b.mark b.integrity (title_bytes b)

  is-file : begun_file b ≡ title_bytes b ++ (closed ++ [])
  unfolding begun_file closed
  is-file = rw append-nil

  length-title : length (title_bytes b) ≡ 65
  unfolding title_bytes
  length-title = write-size title (title_values b) a.in-title ∙ size-title

  length-closed : length closed ≡ length b.mark + 254 + length b.mark
  unfolding closed
  length-closed = closed-length b.mark b.integrity a.in-integrity (title_bytes b)

  pub begun-length : length (begun_file b) ≡ 319 + 2 * length b.mark
  unfolding begun_file closed
  begun-length = simp length-append (omega (arith, length-title, length-closed))

  -- the strategy and the mark length, six bytes of the second line
  strategy-line : (t : List ℕ) → part 58 6 (title_bytes b ++ t) ≡ b.strategy ++ digits_of 3 (length b.mark)
  unfolding title_bytes title lines title_values put left lefts first_of others_of
  strategy-line t =
      write-at (lines_of (format_id ∷ []) ++ fixed separator_strategy.label ∷ []) (value strategy) (lf ∷ []) (title_values b) t 58 6 refl refl a.in-title

  strategy-formed : (length (b.strategy ++ digits_of 3 (length b.mark)) ≡ 6) × (kind_fault strategy (b.strategy ++ digits_of 3 (length b.mark)) ≡ 0)
  unfolding title lines title_values put left lefts first_of others_of fault
  strategy-formed =
      let before : List Field = lines_of (format_id ∷ []) ++ fixed separator_strategy.label ∷ [] in
      let f = (and_both (formed before (title_values b)) (formed (value strategy ∷ lf ∷ []) (lefts before (title_values b))) (sym (formed-split before (value strategy ∷ lf ∷ []) (title_values b)) ∙ a.in-title)).1 in
      (formed-width (value strategy) (lf ∷ []) (lefts before (title_values b)) f, formed-fault (value strategy) (lf ∷ []) (lefts before (title_values b)) f)

  length-strategy : length b.strategy ≡ 3
  length-strategy = omega (arith, simp length-append at strategy-formed.0, length-digits_of 3 (length b.mark))

  strategy-at : (t : List ℕ) → part 58 3 (title_bytes b ++ t) ≡ b.strategy
  strategy-at t =
      sym (take-take 3 6 (drop 58 (title_bytes b ++ t)) (omega arith))
      ∙ rw (strategy-line t) (take_at b.strategy (digits_of 3 (length b.mark)) 3 length-strategy)

  mark-digits-at : (t : List ℕ) → part 61 3 (title_bytes b ++ t) ≡ digits_of 3 (length b.mark)
  mark-digits-at t =
      let six = take-add 3 3 (drop 58 (title_bytes b ++ t)) in
      let both : part 58 3 (title_bytes b ++ t) ++ part 61 3 (title_bytes b ++ t) ≡ b.strategy ++ digits_of 3 (length b.mark) =
      rw (drop-drop 3 58 (title_bytes b ++ t)) at (sym six ∙ strategy-line t) in
      append_cancel_left b.strategy _ _ (rw (strategy-at t) at both)

  mark-length : (t : List ℕ) → mark_length (title_bytes b ++ t) ≡ length b.mark
  unfolding mark_length
  mark-length t = rw (mark-digits-at t) (count_value-digits_of 3 (length b.mark) (omega (arith, a.mark-fits)))

  pub begun-mark-length : mark_length (begun_file b) ≡ length b.mark
  begun-mark-length = rw is-file (mark-length (closed ++ []))

  closed-starts : (t : List ℕ) → take (length b.mark) (closed ++ t) ≡ b.mark
  unfolding closed closing_bytes summed_bytes summed write put
  closed-starts t = rw (append_assoc, append_assoc) (take-append_seam b.mark _)

  pub begun-mark : mark_of (begun_file b) ≡ b.mark
  unfolding mark_of
  begun-mark = rw (begun-mark-length, is-file, drop_at (title_bytes b) (closed ++ []) 65 length-title) (closed-starts [])

  strategy-word : member b.strategy (LLC ∷ NUL ∷ []) ≡ true
  unfolding kind_fault word_fault
  strategy-word =
      rw (take_at b.strategy (digits_of 3 (length b.mark)) 3 length-strategy) at
      (require-true _ 4 (field-own 3 (word_fault (LLC ∷ NUL ∷ [])) (b.strategy ++ digits_of 3 (length b.mark)) (⊳-left _ _ strategy-formed.1)))

  -- "NUL000" was refused: LLC, or a mark of some bytes
  not-tape-read : (t : List ℕ) → (is_llc (title_bytes b ++ t) || not (is_zero (mark_length (title_bytes b ++ t)))) ≡ true
  unfolding is_llc
  not-tape-read t = rw (strategy-at t, mark-length t) (llc-or-mark b.strategy b.mark strategy-word a.not-tape)

  title-passes : field_fault 65 title_fault (begun_file b) ≡ 0
  unfolding title_fault title_bytes is_zero
  title-passes =
      let long : 65 ≤ length (begun_file b) = omega (arith, begun-length) in
      let none : run title (title_bytes b) ≡ 0 = rw append-nil at (write-run title (title_values b) [] a.in-title) in
      let llc = rw append-nil at (not-tape-read []) in
      field-long 65 title_fault (begun_file b) long
      ∙ rw (is-file, take_at (title_bytes b) (closed ++ []) 65 length-title)
      (⊳-both _ _ (require-met _ 1 (rw none)) (require-met _ 2 llc))

  mark-passes : field_fault (mark_length (begun_file b)) mark_fault (drop 65 (begun_file b)) ≡ 0
  unfolding mark_fault
  mark-passes =
      let long : length b.mark ≤ length (closed ++ []) = simp length-append (omega (arith, length-closed)) in
      rw (begun-mark-length, is-file, drop_at (title_bytes b) (closed ++ []) 65 length-title)
      (field-long (length b.mark) mark_fault (closed ++ []) long ∙ rw (closed-starts []) (require-met _ 3 (rw a.not-mini)))

  closing-passes : run (closing (mark_of (begun_file b))) (drop 65 (begun_file b)) ≡ 0
  unfolding closed
  closing-passes =
      rw (begun-mark, is-file, drop_at (title_bytes b) (closed ++ []) 65 length-title)
      (closed_run b.mark b.integrity a.in-integrity (title_bytes b) [])

  pub begun-header : header_fault (begun_file b) ≡ 0
  unfolding header_fault
  begun-header = ⊳-both _ _ title-passes (⊳-both _ _ mark-passes closing-passes)

  pub begun-end : header_end (begun_file b) ≡ length (begun_file b)
  unfolding header_end closing_end
  begun-end = rw begun-mark (omega (arith, begun-length))

  pub begun-good : header_good (begun_file b) ≡ true
  unfolding header_good closed
  begun-good =
      rw (begun-mark, is-file, ← length-title)
      (closed-good b.mark b.integrity a.in-integrity (title_bytes b) [])

  begun-rows : (n : ℕ) (llc : Bool) (v : List ℕ) (seen : List (List ℕ)) (p : ℕ) → read_rows n llc v seen p [] ≡ halt p 0
  unfolding read_rows is_empty
  begun-rows zero llc v seen p = refl
  begun-rows (suc n) llc v seen p = refl

  pub file-reading : (n : ℕ) → read_file n (begun_file b) ≡ record { rows = []; stop = length (begun_file b); good = true; number = 0 }
  unfolding read_file with_header halt
  file-reading n =
      choose-go (header_fault (begun_file b)) _ _ begun-header
      ∙ rw (begun-good, begun-end, drop-length (begun_file b), begun-rows n (is_llc (begun_file b)) (mark_of (begun_file b)) [] (length (begun_file b)))

-- ---- what begin wrote

pub begun-reading : (b : BeginGiven) (buffer : List ℕ) (k : ℕ) → (begin b buffer).answer ≡ result (k ∷ [])
    → (n : ℕ) → read_file n (take k (begin b buffer).buffer) ≡ record { rows = []; stop = k; good = true; number = 0 }
unfolding begin
begun-reading b buffer k e n =
    let done : Outcome = record { answer = result (length (begun_file b) ∷ []); buffer = placed 0 (begun_file b) buffer } in
    let is : begin b buffer ≡ done = accepted-is (begin_tests b buffer) buffer done (k ∷ []) e in
    let a = begin-taken b buffer (accepted-none (begin_tests b buffer) buffer done (k ∷ []) e) in
    let long : k ≡ length (begun_file b) = result-one k (length (begun_file b)) (sym e ∙ ap (λ (o : Outcome). o.answer) is) in
    rw (is, long, placed-start (begun_file b) buffer) (file-reading b buffer a n)
  where
    result-one : (x y : ℕ) → result (x ∷ []) ≡ result (y ∷ []) → x ≡ y
    result-one x y q = cc
