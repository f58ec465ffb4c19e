-- The places and numbers of the finished chunk, in the order in which a reader comes to them.
--     ..-is        header, dependencies, specific data, content count, contents, closing
--     at-..        what stands at a place
--     mark-first   open: the mark is first found where the data end, for test 16 didn't refuse
-- Assumes nothing.
use Prim.Native.Nat.{ℕ, ◌+◌, ◌*◌, ◌≤◌}
use mathlib.Core.Bool.{Bool, true, false, ◌&&◌, ◌||◌}
use mathlib.Core.Path.{◌≡◌, refl, ap, ◌∙◌}
use mathlib.Core.List.{List, [], ◌∷◌, ◌++◌, append_assoc, append-nil}
use native.Mathlib.Numerals.{add-one}
use native.Mathlib.Omega.{arith}
use lib.Dec.{ltb}
use lib.ListN.{length, take, drop, length-append}
use lib.Seq.{drop_at, drop-drop, take-length, drop-append_seam}
use borrow.Author.Tests.{le-leb, eq-eqb, ltb-false}
use Rattle.metafile.specs.Bytes.{part, same, starts, find}
use Rattle.metafile.specs.Fields.{digits_of, count_value}
use Rattle.metafile.specs.Lines.{BIN, fixed, value, lf, first_of, put, left, write, content_length}
use Rattle.metafile.specs.Closing.{summed, summed_bytes, closing_bytes}
use Rattle.metafile.specs.Header.{is_llc, mark_of}
use Rattle.metafile.specs.Chunk.{header_length, dependency_bytes, dependencies, is_multi, dependency_length_for, header_length_for, header_bytes_for, specific, lengths_fault, specific_place, header_bytes, content_count, data_bytes, plain_bytes, contents_from, contents_long, contents_place, contents_bytes, closing_place}
use Rattle.metafile.specs.Append.{Given, content_count_for, first_write, third_write, open_wrong}
use Rattle.laws.proofs.First.{untrue, or-false, ⊳-both, require-met}
use Rattle.laws.proofs.Lists.{same_refl, find-local, find-least}
use Rattle.laws.proofs.Digits.{count_value-digits_of}
use Rattle.laws.proofs.Table.{write-at, lefts}
use Rattle.laws.proofs.Distances.{lines}
use Rattle.written_laws.specs.Taken.{Taken}
use Rattle.written_laws.proofs.Formed.{count_fits, formed-line}
use Rattle.written_laws.proofs.Stretches.{head_part, dependency_part, line_part, tail_part, chunk_bytes, chunk-closed, skip, length-head, length-dependencies, length-line, length-first, header_length-at, sub_format-at, dependency_length-at, dependency_count-at}

-- counted, or open with the mark first found where the data end; over a plain Bool
either : (is_open : Bool) (m v r : List ℕ) → (is_open ≡ true → find m r ≡ length v) → data_bytes m (content_count_for is_open v) r ≡ length v
unfolding content_count_for data_bytes
either true m v r h = h refl
either false m v r h = rw (add-one (length v))

module _ (old : List ℕ) (g : Given) (a : Taken old g) where
  -- ---- places and numbers

  header_length-is : header_length (chunk_bytes old g) ≡ 536 + 344 * length g.parents + length g.specific
  unfolding header_length header_length_for
  header_length-is =
      let small = a.specific-small in
      let few = a.parents-few in
      ap count_value (header_length-at old g a) ∙ count_value-digits_of 12 _ (omega arith)

  pub dependencies-is : dependencies (chunk_bytes old g) ≡ length g.parents
  unfolding dependencies
  dependencies-is = ap count_value (dependency_count-at old g a) ∙ count_value-digits_of 4 _ (omega (arith, a.parents-few))

  dependency_bytes-is : dependency_bytes (chunk_bytes old g) ≡ dependency_length_for (length g.parents)
  unfolding dependency_bytes dependency_length_for
  dependency_bytes-is = ap count_value (dependency_length-at old g a) ∙ count_value-digits_of 12 _ (omega (arith, a.parents-few))

  pub is_multi-is : is_multi (chunk_bytes old g) ≡ false
  unfolding is_multi
  is_multi-is = rw (sub_format-at old g a) a.plain

  pub specific-is : specific (chunk_bytes old g) ≡ length g.specific
  unfolding specific header_length_for
  specific-is = rw (header_length-is, dependencies-is) (omega arith)

  pub lengths-is : lengths_fault (chunk_bytes old g) ≡ 0
  unfolding lengths_fault header_length_for
  lengths-is =
      let n : ℕ = length g.parents in
      let enough : 536 + 344 * n + 0 ≤ 536 + 344 * n + length g.specific = omega arith in
      rw (dependency_bytes-is, dependencies-is, header_length-is, is_multi-is)
      (⊳-both _ _ (require-met _ 7 (eq-eqb (dependency_length_for n) (dependency_length_for n) refl))
      (⊳-both _ _ (require-met _ 7 (le-leb _ _ enough)) (require-met true 7 refl)))

  pub specific_place-is : specific_place (chunk_bytes old g) ≡ 568 + 344 * length g.parents
  unfolding specific_place header_bytes_for
  specific_place-is = rw dependencies-is (omega arith)

  pub header_bytes-is : header_bytes (chunk_bytes old g) ≡ header_bytes_for (length g.parents) (length g.specific)
  unfolding header_bytes
  header_bytes-is = rw (dependencies-is, specific-is)

  -- what stands where the specific data begin, behind the header, and behind the content length line
  pub at-specific : drop (568 + 344 * length g.parents) (chunk_bytes old g) ≡ g.specific ++ tail_part old g
  unfolding chunk_bytes
  at-specific =
      skip (head_part g) _ (568 + 344 * length g.parents) (1 + 344 * length g.parents) (omega (arith, length-head old g a))
      ∙ drop_at (dependency_part old g) _ _ (length-dependencies old g a)

  pub at_tail : drop (header_bytes (chunk_bytes old g)) (chunk_bytes old g) ≡ tail_part old g
  unfolding header_bytes_for
  at_tail =
      rw (header_bytes-is, ← drop-drop (length g.specific) (568 + 344 * length g.parents) (chunk_bytes old g), at-specific)
      (drop-append_seam g.specific _)

  pub count_at : part 21 12 (tail_part old g) ≡ digits_of 12 (content_count_for g.is_open g.contents)
  unfolding tail_part line_part lines put left lefts first_of
  count_at =
      write-at (fixed content_length.label ∷ []) (value content_length.kind) (lf ∷ []) (digits_of 12 (content_count_for g.is_open g.contents) ∷ [])
      (g.contents ++ third_write old g) 21 12 refl refl (formed-line old g a)

  pub content_count-is : content_count (tail_part old g) ≡ content_count_for g.is_open g.contents
  unfolding content_count
  content_count-is =
      ap count_value count_at
      ∙ count_value-digits_of 12 _ (omega (arith, count_fits g.is_open g.contents a.contents-small))

  pub at-contents : drop 34 (tail_part old g) ≡ g.contents ++ third_write old g
  unfolding tail_part
  at-contents = drop_at (line_part g) (g.contents ++ third_write old g) 34 (length-line old g a)

  -- ---- the contents

  -- test 16 says of an open append: not under LLC, and the mark is first found where the data end
  open-parts : (is_open llc bin early : Bool) → (is_open && (llc || bin || early)) ≡ false → is_open ≡ true → (llc ≡ false) × (early ≡ false)
  open-parts true llc bin early e q =
      let h = or-false (llc || bin) early e in
      ((or-false llc bin h.0).0, h.1)
  open-parts false llc bin early e q = untrue q

  pub opened-right : g.is_open ≡ true → (is_llc old ≡ false) × (ltb (find (mark_of old) (g.contents ++ mark_of old)) (length g.contents) ≡ false)
  unfolding open_wrong
  opened-right q = open-parts g.is_open (is_llc old) (same g.description.generic BIN) _ a.open-right q

  mark-found : g.is_open ≡ true → find (mark_of old) (g.contents ++ mark_of old) ≡ length g.contents
  unfolding starts
  mark-found q =
      let m : List ℕ = mark_of old in
      let low : length g.contents ≤ find m (g.contents ++ m) = ltb-false _ _ (opened-right q).1 in
      let here : same (take (length m) (drop (length g.contents) (g.contents ++ m))) m ≡ true = rw (drop-append_seam, take-length) (same_refl m) in
      let high = find-least m (g.contents ++ m) (length g.contents) here in
      omega arith

  -- the closing begins with the mark
  third-starts : (t : List ℕ) × (third_write old g ≡ mark_of old ++ t)
  unfolding third_write closing_bytes summed_bytes summed write put
  third-starts = (_, append_assoc (mark_of old) _ _)

  pub mark-first : g.is_open ≡ true → find (mark_of old) (g.contents ++ third_write old g) ≡ length g.contents
  mark-first q =
      let m : List ℕ = mark_of old in
      rw (third-starts.1, ← append_assoc g.contents m third-starts.0)
      (find-local m (g.contents ++ m) third-starts.0 (simp length-append (omega (arith, mark-found q))) ∙ mark-found q)

  pub plain_bytes-is : plain_bytes (mark_of old) (tail_part old g) ≡ length g.contents
  unfolding plain_bytes
  plain_bytes-is = rw (content_count-is, at-contents) (either g.is_open (mark_of old) g.contents _ mark-first)

  pub contents_bytes-is : contents_bytes (mark_of old) (chunk_bytes old g) ≡ length g.contents
  unfolding contents_bytes contents_long
  contents_bytes-is = rw (is_multi-is, at_tail) plain_bytes-is

  pub contents_place-is : contents_place (chunk_bytes old g) ≡ length (first_write old g)
  unfolding contents_place contents_from header_bytes_for
  contents_place-is = rw (is_multi-is, header_bytes-is) (omega (arith, length-first old g a))

  pub closing_place-is : closing_place (mark_of old) (chunk_bytes old g) ≡ length (first_write old g ++ g.contents)
  unfolding closing_place
  closing_place-is = rw (contents_place-is, contents_bytes-is) (simp length-append)

  -- what stands where the contents begin, and behind them
  pub behind-line : drop (contents_place (chunk_bytes old g)) (chunk_bytes old g) ≡ g.contents ++ third_write old g
  behind-line =
      rw (contents_place-is, chunk-closed old g, append-nil, append_assoc (first_write old g)) (drop-append_seam (first_write old g) _)

  pub at-closing : drop (closing_place (mark_of old) (chunk_bytes old g)) (chunk_bytes old g) ≡ third_write old g ++ []
  at-closing = rw (closing_place-is, chunk-closed old g) (drop-append_seam (first_write old g ++ g.contents) _)
