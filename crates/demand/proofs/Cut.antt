-- Whole implies finished: what a cut left of the new chunk reads as a whole chunk only if nothing is missing.
-- Let f be the finished chunk and t what a cut left of it: t is damaged, no longer than f, and each byte of t is that
-- of f or zero. Let t be whole. The fields that decide its places (header length, sub-format, dependency count, content
-- count) have no zero byte, so they are those of f: t is no MultiChunk, and its contents begin where those of f begin.
-- Counted, they end there too. Open, the mark found in t stands in f at the same place, for it has no zero byte (15),
-- and by 16 it isn't there before the data's end. So t's contents are no shorter than f's, and the closing takes its
-- full length behind them; t being no longer than f, they are no longer either, and nothing is cut off. So the cut was
-- in the last write, which is the closing, and no field of the closing takes a zero byte: t is f.
--     whole-finished   for each of the three writes, over any damage of it
-- Assumes nothing.
use Prim.Native.Nat.{ℕ, suc, ◌≤◌}
use mathlib.Core.Bool.{Bool, true, false}
use mathlib.Core.Path.{◌≡◌, refl, sym, ap, ◌∙◌}
use mathlib.Core.List.{List, [], ◌∷◌, ◌++◌, append-nil}
use native.Mathlib.Numerals.{add-one}
use native.Mathlib.Omega.{arith}
use lib.ListN.{length, take, drop, length-append}
use lib.Seq.{take_all, drop_at, drop-drop}
use Rattle.metafile.specs.Bytes.{part, all, is_zero, non_zero, starts, find}
use Rattle.metafile.specs.Fields.{count_value}
use Rattle.metafile.specs.Lines.{count, text, Field, fixed, value, field_width, fault, size, run, content_length}
use Rattle.metafile.specs.Closing.{summed, unsummed, closing, closing_end}
use Rattle.metafile.specs.Header.{is_llc, mark_of}
use Rattle.metafile.specs.Chunk.{head, header_length, sub_format, dependencies, is_multi, specific, header_bytes, content_count, data_bytes, plain_bytes, plain_fault, contents_fault, contents_long, contents_place, contents_bytes, closing_place, chunk_end}
use Rattle.metafile.specs.Append.{Given, content_count_for, first_write, third_write, first_end, second_end}
use Rattle.metafile.specs.Cut.{Write, header_write, contents_write, closing_write, zeroed}
use Rattle.laws.proofs.First.{⊳-left}
use Rattle.laws.proofs.Lists.{same_refl, find-least}
use Rattle.laws.proofs.Table.{strict, strict_kind, all_strict, fault-enough, fault-clear, fixed-bytes, run-clear, run_at}
use Rattle.laws.proofs.Distances.{lines, size-closing}
use Rattle.chunk_laws.proofs.Chunk.{Whole, fits}
use Rattle.demand.proofs.Damage.{Damaged, damaged-append, damaged-more, damaged-length, damaged-drop, mend, zeroed-part}
use Rattle.written_laws.specs.Taken.{Taken}
use Rattle.written_laws.proofs.Stretches.{chunk_bytes, tail_part, chunk-closed, length-third, length-chunk}
use Rattle.written_laws.proofs.Numbers.{is_multi-is, at_tail, content_count-is, mark-first, contents_place-is, behind-line}

-- a strict field that passes has the old bytes
field-same : (f : Field) (p : ℕ) (t u : List ℕ) → Damaged t u → strict f ≡ true → fault f (drop p t) ≡ 0 → part p (field_width f) t ≡ part p (field_width f) u
field-same f p t u d z e = mend (field_width f) (damaged-drop p d) (fault-enough f (drop p t) e) (fault-clear f (drop p t) z e)

-- counted, so many bytes; open, as the mark says; over a plain Bool
no_less : (is_open : Bool) (m v r : List ℕ) (n : ℕ) → n ≡ data_bytes m (content_count_for is_open v) r → (is_open ≡ true → length v ≤ n) → length v ≤ n
unfolding content_count_for data_bytes
no_less true m v r n e h = h refl
no_less false m v r n e h = let k = rw (add-one (length v)) at e in omega arith

module _ (old : List ℕ) (g : Given) (a : Taken old g) (t : List ℕ) (d : Damaged t (chunk_bytes old g)) (w : Whole (is_llc old) (mark_of old) t) where
  -- ---- the fields that decide places: field n of the head, at the distance p

  head-same : (n : ℕ) (f : Field) (p : ℕ) → take n head ++ f ∷ drop (suc n) head ≡ head → size (take n head) ≡ p → strict f ≡ true
      → part p (field_width f) t ≡ part p (field_width f) (chunk_bytes old g)
  head-same n f p is ep z =
      let passes : run (take n head ++ f ∷ drop (suc n) head) t ≡ 0 = ap (λ (fs : List Field). run fs t) is ∙ w.in_head in
      field-same f p t (chunk_bytes old g) d z (rw ep at (run_at (take n head) f (drop (suc n) head) t passes))

  header_length-same : header_length t ≡ header_length (chunk_bytes old g)
  unfolding header_length lines head strict strict_kind
  header_length-same = ap count_value (head-same 1 (value (count 12 999999999999)) 20 refl refl refl)

  dependencies-same : dependencies t ≡ dependencies (chunk_bytes old g)
  unfolding dependencies lines head strict strict_kind
  dependencies-same = ap count_value (head-same 25 (value (count 4 9999)) 563 refl refl refl)

  is_multi-same : is_multi t ≡ false
  unfolding is_multi sub_format lines head strict strict_kind
  is_multi-same = rw (head-same 4 (value (text 256)) 46 refl refl refl) (is_multi-is old g a)

  header_bytes-same : header_bytes t ≡ header_bytes (chunk_bytes old g)
  unfolding header_bytes specific
  header_bytes-same = rw (header_length-same, dependencies-same)

  contents_place-same : contents_place t ≡ contents_place (chunk_bytes old g)
  unfolding contents_place
  contents_place-same = rw (header_bytes-same, is_multi-same, is_multi-is old g a)

  plain-same : plain_fault (is_llc old) (mark_of old) (drop (header_bytes t) t) ≡ 0
  unfolding contents_fault
  plain-same = rw is_multi-same at w.in-contents

  count_same : content_count (drop (header_bytes t) t) ≡ content_count_for g.is_open g.contents
  unfolding content_count plain_fault lines strict strict_kind
  count_same =
      let r : List ℕ = drop (header_bytes t) t in
      let dr : Damaged r (tail_part old g) = rw (← at_tail old g a, ← header_bytes-same) (damaged-drop (header_bytes t) d) in
      ap count_value (field-same (value content_length.kind) 21 r (tail_part old g) dr refl (run_at (fixed content_length.label ∷ []) (value content_length.kind) [] r (⊳-left _ _ plain-same)))
      ∙ (unfold content_count in (content_count-is old g a))

  -- ---- the contents

  -- where the mark of t is read, the finished chunk has it too
  mark-there : starts (mark_of old) (drop (contents_bytes (mark_of old) t) (g.contents ++ third_write old g)) ≡ true
  unfolding starts closing summed run field_width strict closing_place
  mark-there =
      let m : List ℕ = mark_of old in
      let n : ℕ = contents_bytes (mark_of old) t in
      let here : fault (fixed m) (drop n (drop (contents_place t) t)) ≡ 0 = rw (drop-drop n (contents_place t) t) (⊳-left _ _ w.in-closing) in
      let bytes = fixed-bytes m _ here in
      let moved = field-same (fixed m) n (drop (contents_place t) t) (drop (contents_place t) (chunk_bytes old g)) (damaged-drop (contents_place t) d) a.clear here in
      let there : take (length m) (drop n (g.contents ++ third_write old g)) ≡ m = rw (← behind-line old g a, ← contents_place-same) (sym moved ∙ bytes) in
      rw there (same_refl m)

  contents-by-count : contents_bytes (mark_of old) t ≡ data_bytes (mark_of old) (content_count_for g.is_open g.contents) (drop 34 (drop (header_bytes t) t))
  unfolding contents_bytes contents_long plain_bytes
  contents-by-count = rw (is_multi-same, count_same)

  contents-low : length g.contents ≤ contents_bytes (mark_of old) t
  contents-low =
      let there : find (mark_of old) (g.contents ++ third_write old g) ≤ contents_bytes (mark_of old) t = find-least (mark_of old) _ _ mark-there in
      no_less g.is_open (mark_of old) g.contents (drop 34 (drop (header_bytes t) t)) (contents_bytes (mark_of old) t) contents-by-count
      (λ q. omega (arith, there, mark-first old g a q))

  -- ---- nothing is cut off

  pub length-same : length t ≡ length (chunk_bytes old g)
  unfolding chunk_end closing_end closing_place
  length-same =
      omega (arith, fits (is_llc old) (mark_of old) t w, damaged-length d, contents-low, contents_place-same, contents_place-is old g a, length-chunk old g a, length-third old g a)

  pub closing_place-same : closing_place (mark_of old) t ≡ length (first_write old g ++ g.contents)
  unfolding chunk_end closing_end closing_place
  closing_place-same =
      simp length-append
      (omega (arith, fits (is_llc old) (mark_of old) t w, damaged-length d, contents-low, contents_place-same, contents_place-is old g a, length-chunk old g a, length-third old g a))

-- ---- the closing has no zero byte

closing-strict : (m : List ℕ) → all non_zero m ≡ true → all_strict (closing m) ≡ true
unfolding closing summed unsummed lines all_strict strict strict_kind all non_zero is_zero
closing-strict m c = rw c refl

module _ (old : List ℕ) (g : Given) (a : Taken old g) (z : List ℕ) (dz : Damaged z (third_write old g)) where
  in-closing-damaged : Damaged ((first_write old g ++ g.contents) ++ z) (chunk_bytes old g)
  in-closing-damaged = rw (chunk-closed old g) (damaged-append (first_write old g ++ g.contents) (damaged-more [] dz))

  closing-finished : Whole (is_llc old) (mark_of old) ((first_write old g ++ g.contents) ++ z) → z ≡ third_write old g
  closing-finished w =
      let t : List ℕ = (first_write old g ++ g.contents) ++ z in
      let n : ℕ = size (closing (mark_of old)) in
      let n-is : size (closing (mark_of old)) ≡ length (third_write old g) = size-closing (mark_of old) ∙ sym (length-third old g a) in
      let long = simp length-append at (length-same old g a t in-closing-damaged w) in
      let z-long : length z ≡ length (third_write old g) = omega (arith, long, length-chunk old g a) in
      let at-z : drop (closing_place (mark_of old) t) t ≡ z = drop_at (first_write old g ++ g.contents) z _ (sym (closing_place-same old g a t in-closing-damaged w)) in
      let passes : run (closing (mark_of old)) z ≡ 0 = rw at-z at w.in-closing in
      sym (take_all n z (omega arith))
      ∙ mend n dz (omega arith) (run-clear (closing (mark_of old)) z (closing-strict (mark_of old) a.clear) passes)
      ∙ take_all n (third_write old g) (omega arith)

-- ---- what a cut left of the new chunk, write by write

unfoldable pub left_of : List ℕ → Given → Write → ℕ → (ℕ → Bool) → List ℕ
left_of old g header_write k lost = zeroed lost (length old) (take k (first_write old g))
left_of old g contents_write k lost = first_write old g ++ zeroed lost (first_end old g) (take k g.contents)
left_of old g closing_write k lost = (first_write old g ++ g.contents) ++ zeroed lost (second_end old g) (take k (third_write old g))

module _ (old : List ℕ) (g : Given) (a : Taken old g) where
  -- in the first two writes the closing is missing
  cut_short : (t : List ℕ) → Damaged t (first_write old g ++ g.contents) → Whole (is_llc old) (mark_of old) t → ⊥
  cut_short t d w =
      let whole-damaged : Damaged t (chunk_bytes old g) = rw (chunk-closed old g) (damaged-more (third_write old g ++ []) d) in
      let short = simp length-append at (damaged-length d) in
      omega (arith, short, length-same old g a t whole-damaged w, length-chunk old g a, length-third old g a)

  pub whole-finished : (x : Write) (k : ℕ) (lost : ℕ → Bool) → Whole (is_llc old) (mark_of old) (left_of old g x k lost) → left_of old g x k lost ≡ chunk_bytes old g
  unfolding left_of
  whole-finished header_write k lost w =
      absurd (cut_short _ (damaged-more g.contents (zeroed-part lost (length old) k (first_write old g))) w)
  whole-finished contents_write k lost w =
      absurd (cut_short _ (damaged-append (first_write old g) (zeroed-part lost (first_end old g) k g.contents)) w)
  whole-finished closing_write k lost w =
      let z-is = closing-finished old g a _ (zeroed-part lost (second_end old g) k (third_write old g)) w in
      ap (λ (z : List ℕ). (first_write old g ++ g.contents) ++ z) (z-is ∙ sym (append-nil (third_write old g))) ∙ sym (chunk-closed old g)

  pub left_of-length : (x : Write) (k : ℕ) (lost : ℕ → Bool) → length (left_of old g x k lost) ≤ length (chunk_bytes old g)
  unfolding left_of
  left_of-length header_write k lost =
      omega (arith, damaged-length (zeroed-part lost (length old) k (first_write old g)), length-chunk old g a)
  left_of-length contents_write k lost =
      simp length-append (omega (arith, damaged-length (zeroed-part lost (first_end old g) k g.contents), length-chunk old g a))
  left_of-length closing_write k lost =
      simp length-append (omega (arith, damaged-length (zeroed-part lost (second_end old g) k (third_write old g)), length-chunk old g a))
