-- The lines of a chunk, and of all rows (specs/Counted): how many they are, and put into a buffer.
--     count-few count-le count_next count-range   numbers below n that pass a test
--     put-room                        a buffer is as long as it was
--     line-put                        one line, as it was put
--     count_none count-listed lines-few   how many lines a chunk has
--     chunk-none listed-put unlisted-put   the lines of its dependencies
--     relations-put lines-listed      its lines: a relations row has none
--     row-counted row_put             those of row k; rows_none rows_few rows_all: of all rows
-- Assumes nothing.
use Prim.Native.Nat.{ℕ, zero, suc, ◌+◌, ◌-◌, ◌*◌, ◌≤◌}
use mathlib.Core.Bool.{Bool, true, false, cond}
use mathlib.Core.Path.{◌≡◌, refl, sym, ap, ◌∙◌}
use mathlib.Core.List.{List, [], ◌∷◌, ◌++◌, append_assoc, append-nil}
use native.Mathlib.Nat.{zero-add}
use native.Mathlib.Omega.{arith}
use native.Mathlib.Numerals.{add-one}
use lib.Dec.{eqb}
use lib.ListN.{length, take, drop, length-append, length-take, length-drop}
use borrow.Author.Tests.{eqb-true, eqb-false}
use Rattle.std.specs.List.{filter, range_with_len}
use Rattle.std.proofs.lemmas.List.Elements.{filter-append}
use Rattle.metafile.specs.Bytes.{part}
use Rattle.metafile.specs.Chunk.{sub_format, dependency_serial_of, dependency_sub_format_of}
use Rattle.metafile.specs.Reading.{rows_of}
use Rattle.metafile.specs.Answers.{placed}
use Rattle.metafile.specs.Append.{row_no}
use Rattle.metafile.specs.Calls.{chunk_of, parent_row}
use Rattle.metafile.specs.Below.{join_below}
use Rattle.metafile.specs.Relations.{is_relations, divided, lined, relation_name, is_listed, relation_line, line_if_listed, lines_of_row, relation_lines}
use Rattle.laws.proofs.First.{test}
use Rattle.laws.proofs.Loops.{part-drop, placed-length, placed-placed, placed-nothing}
use Rattle.walk.specs.declared.answers.Header.{Header}
use Rattle.walk.specs.declared.known.Places.{Places}
use Rattle.walk.specs.Known.{RowPlaces}
use Rattle.relation_line.specs.Form.{line_for}
use Rattle.relation_line.proofs.Ranges.{range-more}
use Rattle.relation_line.proofs.Written.{line-long as put-long}
use Rattle.relations_write.specs.Found.{finds_relations, listed_in}
use Rattle.relations_write.specs.Counted.{count_below, chunk_lines, lines_in, line_count, Put, RowPut}
use Rattle.relations_write.proofs.Finds.{row-chunk}

-- ---- numbers below n

module _ (p : ℕ → Bool) where
  pub count-few : (n : ℕ) → count_below n p ≤ n
  unfolding count_below
  count-few zero = omega arith
  count-few (suc n) =
      let h = count-few n in
      test (p n) (λ q. rw q (omega arith)) (λ q. rw q (omega arith))

  pub count-le : (i n : ℕ) → i ≤ n → count_below i p ≤ count_below n p
  unfolding count_below
  count-le i zero h = let z : i ≡ 0 = omega arith in rw z (omega arith)
  count-le i (suc n) h =
      test (eqb i (suc n))
      (λ q. rw (eqb-true i (suc n) q) (omega arith))
      (λ q. omega (arith, count-le i n (omega (arith, eqb-false i (suc n) q))))

  pub count_next : (n : ℕ) (b : Bool) → p n ≡ b → count_below (n + 1) p ≡ count_below n p + cond b 1 0
  unfolding count_below
  count_next n b e = rw (add-one n, e)

-- a chain over 0..n counts them
pub count-range : (p : ℕ → Bool) (n : ℕ) → length (filter p (range_with_len 0 n)) ≡ count_below n p
unfolding count_below
count-range p zero = refl
count-range p (suc n) =
    let more : filter p (range_with_len 0 (suc n)) ≡ filter p (range_with_len 0 n) ++ filter p (n ∷ []) =
    ap (filter p) (range-more 0 n ∙ rw (zero-add n)) ∙ filter-append p (range_with_len 0 n) (n ∷ []) in
    ap length more
    ∙ length-append (filter p (range_with_len 0 n)) (filter p (n ∷ []))
    ∙ rw (count-range p n) (test (p n) (λ q. rw q) (λ q. rw q))

module _ {A : Type 0} (f : ℕ → List A) where
  join-le : (i n : ℕ) → i ≤ n → length (join_below i f) ≤ length (join_below n f)
  unfolding join_below
  join-le i zero h = let z : i ≡ 0 = omega arith in rw z (omega arith)
  join-le i (suc n) h =
      test (eqb i (suc n))
      (λ q. rw (eqb-true i (suc n) q) (omega arith))
      (λ q. simp length-append (omega (arith, join-le i n (omega (arith, eqb-false i (suc n) q)))))

  join-next : (n : ℕ) → join_below (n + 1) f ≡ join_below n f ++ f n
  unfolding join_below
  join-next n = rw (add-one n)

-- ---- lines put into a buffer

lined-append : (ls ms : List (List ℕ)) → lined (ls ++ ms) ≡ lined ls ++ lined ms
unfolding lined
lined-append [] ms = refl
lined-append (v ∷ vs) ms = rw (lined-append vs ms) (sym (append_assoc v (10 ∷ lined vs) (lined ms)))

put-none : (p : ℕ) (b : List ℕ) → Put [] 0 p p b b
unfolding lined
put-none p b = record { ends = omega arith; long = refl; put = sym (placed-nothing p b) }

module _ {ls : List (List ℕ)} {n p q : ℕ} {b b' : List ℕ} (w : Put ls n p q b b') where
  pub put-room : p + 605 * n ≤ length b → length b' ≡ length b
  put-room h = rw w.put (placed-length p (lined ls) b (omega (arith, w.long)))

  put-more : {ms : List (List ℕ)} {m r : ℕ} {after : List ℕ} → Put ms m q r b' after → p + 605 * (n + m) ≤ length b
      → Put (ls ++ ms) (n + m) p r b after
  put-more {ms} t h =
      let place : q ≡ p + length (lined ls) = omega (arith, w.ends, w.long) in
      let room : p + length (lined ls) + length (lined ms) ≤ length b = omega (arith, w.long, t.long) in
      record {
        ends = omega (arith, w.ends, t.ends);
        long = rw (lined-append ls ms) (simp length-append (omega (arith, w.long, t.long)));
        put = t.put ∙ rw (w.put, place, lined-append ls ms) (placed-placed p (lined ls) (lined ms) b room);
      }

-- ---- the line of dependency j

line-long : (v s : List ℕ) (j : ℕ) → length v ≡ 38 → 568 + 344 * j + 344 ≤ length s → length (line_for v s j) ≡ 604
line-long v s j w h = omega (arith, length-append (line_for v s j) (10 ∷ []), put-long v s j w h)

-- of the chunk at a place of the file
module _ (file : List ℕ) (serial at j : ℕ) where
  line-given : divided 9
      (relation_name
      ∷ take (serial + 38 - serial) (drop serial file)
      ∷ sub_format (take (length file - at) (drop at file))
      ∷ dependency_serial_of j (take (length file - at) (drop at file))
      ∷ dependency_sub_format_of j (take (length file - at) (drop at file))
      ∷ [])
      ≡ line_for (part serial 38 file) (drop at file) j
  line-given = let m : serial + 38 - serial ≡ 38 = omega arith in rw (m, part-drop file at)

  pub line-put : serial + 38 ≤ length file → at + (568 + 344 * j + 344) ≤ length file
      → (q r : ℕ) → r ≡ q + 605 → (b after : List ℕ)
      → after
      ≡ placed q
      (divided 9
      (relation_name
      ∷ take (serial + 38 - serial) (drop serial file)
      ∷ sub_format (take (length file - at) (drop at file))
      ∷ dependency_serial_of j (take (length file - at) (drop at file))
      ∷ dependency_sub_format_of j (take (length file - at) (drop at file))
      ∷ [])
      ++ 10 ∷ [])
      b
      → Put (line_for (part serial 38 file) (drop at file) j ∷ []) 1 q r b after
  unfolding lined
  line-put h i q r e b after is =
      let serial-long : length (part serial 38 file) ≡ 38 = simp (length-take, length-drop) (omega arith) in
      let inside : 568 + 344 * j + 344 ≤ length (drop at file) = simp length-drop (omega arith) in
      record {
        ends = omega arith;
        long = simp length-append (omega (arith, line-long (part serial 38 file) (drop at file) j serial-long inside));
        put = is ∙ ap (λ (l : List ℕ). placed q (l ++ 10 ∷ []) b) line-given;
      }

-- ---- the lines of a chunk

module _ (file s : List ℕ) (n : ℕ) where
  pub count_none : is_relations s ≡ true → line_count file s n ≡ 0
  unfolding line_count
  count_none e = rw e

  pub count-listed : is_relations s ≡ false → line_count file s n ≡ count_below n (listed_in file s)
  unfolding line_count
  count-listed e = rw e

  pub lines-few : line_count file s n ≤ n
  lines-few =
      test (is_relations s)
      (λ q. omega (arith, count_none q))
      (λ q. omega (arith, count-listed q, count-few (listed_in file s) n))

module _ (file v s : List ℕ) where
  lines_next : (n : ℕ) (b : Bool) → listed_in file s n ≡ b
      → chunk_lines file v s (n + 1) ≡ chunk_lines file v s n ++ cond b (line_for v s n ∷ []) []
  unfolding chunk_lines
  lines_next n b e = join-next _ n ∙ rw e

  chunk_count : (n : ℕ) → length (chunk_lines file v s n) ≡ count_below n (listed_in file s)
  unfolding chunk_lines join_below count_below
  chunk_count zero = refl
  chunk_count (suc n) =
      let h = chunk_count n in
      test (listed_in file s n)
      (λ q. rw q (simp length-append (omega (arith, h))))
      (λ q. rw q (simp length-append (omega (arith, h))))

  lines-count : (n : ℕ) → length (lines_in file v s n) ≡ line_count file s n
  unfolding lines_in line_count
  lines-count n = test (is_relations s) (λ q. rw q) (λ q. rw q (chunk_count n))

  pub chunk-none : (p : ℕ) (b : List ℕ) → Put (chunk_lines file v s 0) (count_below 0 (listed_in file s)) p p b b
  unfolding chunk_lines join_below count_below
  chunk-none p b = put-none p b

  -- dependency j, behind the lines of those before it
  module _ (j : ℕ) {p q : ℕ} {b b' : List ℕ}
      (w : Put (chunk_lines file v s j) (count_below j (listed_in file s)) p q b b') where
    pub listed-put : listed_in file s j ≡ true → p + 605 * count_below (j + 1) (listed_in file s) ≤ length b
        → {r : ℕ} {after : List ℕ} → Put (line_for v s j ∷ []) 1 q r b' after
        → Put (chunk_lines file v s (j + 1)) (count_below (j + 1) (listed_in file s)) p r b after
    listed-put e room t =
        let next = count_next (listed_in file s) j true e in
        rw (lines_next j true e, next) (put-more w t (omega (arith, next)))

    pub unlisted-put : listed_in file s j ≡ false
        → Put (chunk_lines file v s (j + 1)) (count_below (j + 1) (listed_in file s)) p q b b'
    unlisted-put e =
        let same : count_below (j + 1) (listed_in file s) ≡ count_below j (listed_in file s) =
        omega (arith, count_next (listed_in file s) j false e) in
        rw (lines_next j false e, append-nil (chunk_lines file v s j), same) w

  pub relations-put : (n : ℕ) → is_relations s ≡ true → (p : ℕ) (b : List ℕ)
      → Put (lines_in file v s n) (line_count file s n) p p b b
  unfolding lines_in line_count
  relations-put n e p b = rw e (put-none p b)

  pub lines-listed : (n : ℕ) → is_relations s ≡ false → lines_in file v s n ≡ chunk_lines file v s n
  unfolding lines_in
  lines-listed n e = rw e

-- ---- the lines of row k

lines_are : (file : List ℕ) (k : ℕ)
    → lines_of_row file k ≡ lines_in file (row_no (rows_of file) k).serial (chunk_of file k) (row_no (rows_of file) k).dependencies
unfolding lines_of_row line_if_listed is_listed relation_line parent_row lines_in chunk_lines listed_in finds_relations
lines_are file k = refl

-- how many lines the first k rows have
abbrev pub lines_to : List ℕ → ℕ → ℕ
lines_to file k = length (join_below k (lines_of_row file))

module _ (file : List ℕ) (h : Header) (k at : ℕ) (row : Places) (w : RowPlaces file h k at row) where
  row-lines : lines_of_row file k ≡ lines_in file (part row.serial 38 file) (drop at file) row.dependencies
  row-lines = lines_are file k ∙ rw (w.serial-is, row-chunk file h k at row w, w.dependencies-is)

  pub row-counted : lines_to file (k + 1) ≡ lines_to file k + line_count file (drop at file) row.dependencies
  row-counted =
      rw (join-next (lines_of_row file) k, row-lines)
      (length-append (join_below k (lines_of_row file)) _
      ∙ ap (λ (n : ℕ). lines_to file k + n) (lines-count file _ (drop at file) row.dependencies))

  pub row_put : {p q r : ℕ} {b b' after : List ℕ} → Put (join_below k (lines_of_row file)) (lines_to file k) p q b b'
      → p + 605 * lines_to file (k + 1) ≤ length b
      → RowPut file row.serial at row.dependencies q r b' after
      → Put (join_below (k + 1) (lines_of_row file)) (lines_to file (k + 1)) p r b after
  row_put t room u =
      rw (row-counted, join-next (lines_of_row file) k, row-lines) (put-more t u (omega (arith, row-counted)))

-- ---- the lines of all rows

pub rows_none : (file : List ℕ) (p : ℕ) (b : List ℕ) → Put (join_below 0 (lines_of_row file)) (lines_to file 0) p p b b
unfolding join_below
rows_none file p b = put-none p b

pub rows_few : (file : List ℕ) (k : ℕ) → k ≤ length (rows_of file) → lines_to file k ≤ length (relation_lines file)
unfolding relation_lines
rows_few file k h = join-le (lines_of_row file) k (length (rows_of file)) h

pub rows_all : (file : List ℕ) (k : ℕ) → k ≡ length (rows_of file) → join_below k (lines_of_row file) ≡ relation_lines file
unfolding relation_lines
rows_all file k e = rw e
