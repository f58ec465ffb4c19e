-- What the functions over the steps need of the reading: a chunk read at a place, one turn of a loop, each answer.
--     given-..          the chunk, from the parts of the file that are handed on
--     turn              from one row to the next
--     step-..           the answers of a step
--     seen-passed seen_more with-there row-only row_other   the serial number of the chunk of a row, compared
--     numbered-.. between-.. between_..   the answers on a serial number
-- Assumes nothing.
use Prim.Native.Nat.{ℕ, suc, ◌+◌, ◌-◌, ◌≤◌, ◌<◌}
use Rattle.std.specs.Prelude.{Some, None, is_ok}
use Rattle.std.specs.Result.{result_ok, result_or}
use Rattle.std.specs.declared.result.Result.{Result}
use Rattle.std.specs.declared.result.Result.TheVariants.{Ok, Err}
use mathlib.Core.Bool.{Bool, true, false, not, ◌&&◌, ◌||◌}
use mathlib.Core.Path.{◌≡◌, refl, sym, ap, ◌∙◌}
use mathlib.Core.List.{List, []}
use native.Mathlib.Omega.{arith}
use native.Mathlib.Numerals.{add-one}
use lib.Dec.{leb, ltb}
use lib.ListN.{length, take, drop, length-drop}
use lib.Seq.{drop-length}
use borrow.Author.Tests.{le-leb, leb-true, lt-ltb, le-ltb, ltb-true, ltb-false}
use Rattle.metafile.specs.Bytes.{◌⊳◌, require, is_empty}
use Rattle.metafile.specs.Fields.{same_serial, known}
use Rattle.metafile.specs.Header.{is_llc, mark_length, mark_of, header_fault}
use Rattle.metafile.specs.Chunk.{chunk_fault, chunk_end, serial_of}
use Rattle.metafile.specs.Reading.{next_fault, rows_of, serials_of}
use Rattle.metafile.specs.Append.{row_no}
use Rattle.metafile.specs.Calls.{row_with}
use Rattle.laws.proofs.First.{test, cases, untrue, and_both, ⊳-stop, ⊳-go, require-met, require-unmet, choose-go, choose-stop}
use Rattle.laws.proofs.Loops.{part-drop}
use Rattle.chunk_laws.proofs.File.{file-few}
use Rattle.chunk_laws.proofs.Serials.{file-fresh}
use Rattle.chunk.specs.declared.parts.Layout.{Layout}
use Rattle.walk.specs.declared.answers.Placed.{Placed}
use Rattle.chunk.specs.Layout.{layout_of, parts_of, faulty, WholeLayout}
use Rattle.walk.specs.Walk.{place_after, chunk_at, step_of, numbered_of, between_of}
use Rattle.walk.proofs.Stages.{mark-part}
use Rattle.walk.proofs.Steps.{serials_past, rest_after, fault_after, Stopped, after-cases, row-place, row-serial, row-unfaulted, place-suc, place-fits}
use Rattle.walk.proofs.Serials.{known_past, known_more, with-here, with-least, known-with, with-only, with-other}

-- ---- the chunk at a place

pub layout-number : (llc : Bool) (m s : List ℕ) → (layout_of llc m s).number ≡ chunk_fault llc m s
unfolding layout_of parts_of faulty
layout-number llc m s =
    cases (chunk_fault llc m s)
    (λ z. rw z (ap (λ (l : Layout). l.number) (choose-go 0 (parts_of m s) faulty refl)))
    (λ k z. rw z (ap (λ (l : Layout). l.number) (choose-stop (suc k) (parts_of m s) faulty (λ q. omega arith))))

pub layout-end : (llc : Bool) (m s : List ℕ) → chunk_fault llc m s ≡ 0 → (layout_of llc m s).end ≡ chunk_end m s
unfolding layout_of parts_of
layout-end llc m s z = ap (λ (l : Layout). l.end) (choose-go (chunk_fault llc m s) (parts_of m s) faulty z)

-- the mark and the rest of the file, as they are handed on
module _ (file : List ℕ) (z : header_fault file ≡ 0) (n : ℕ) (count : n ≡ mark_length file) (at : ℕ) where
  pub given-chunk : (llc : Bool) → llc ≡ is_llc file
      → layout_of llc (take (65 + n - 65) (drop 65 file)) (take (length file - at) (drop at file)) ≡ chunk_at file at
  unfolding chunk_at
  given-chunk llc is = rw (mark-part file z n count, part-drop file at, is)

  pub given-whole : (l : Layout) → l ≡ chunk_at file at → l.number ≡ 0
      → WholeLayout l (take (65 + n - 65) (drop 65 file)) (take (length file - at) (drop at file))
  given-whole l is w = record { llc = is_llc file; is = is ∙ sym (given-chunk (is_llc file) refl); whole = w }

-- ---- one turn

-- the chunk of row i: it is whole, and the next row begins where it ends
pub record Turn (file : List ℕ) (i at : ℕ) (l : Layout) : Type 0 where
  pub row : i < length (rows_of file)
  pub layout_is : l ≡ chunk_at file at
  pub whole : l.number ≡ 0
  pub inside : at + l.end ≤ length file
  pub few : i + 1 ≤ length file
  pub place : at + l.end ≡ place_after file (i + 1)

module _ (file : List ℕ) (e : header_fault file ≡ 0) where
  pub turn : (i at : ℕ) (l : Layout) → i < length (rows_of file) → at ≡ place_after file i → l ≡ chunk_at file at → Turn file i at l
  unfolding chunk_at
  turn i at l h p is =
      let llc = is_llc file in
      let m = mark_of file in
      let s = drop (place_after file i) file in
      let here : l ≡ layout_of llc m s = rw (sym p) is in
      let z = row-unfaulted file e i h in
      let next : place_after file i + l.end ≡ place_after file (suc i) =
      ap (λ (n : ℕ). place_after file i + n) (ap (λ (x : Layout). x.end) here ∙ layout-end llc m s z) ∙ sym (place-suc file e i h) in
      record {
        row = h;
        layout_is = is;
        whole = ap (λ (x : Layout). x.number) here ∙ layout-number llc m s ∙ z;
        inside = rw (p, next) (place-fits file e (suc i) h);
        few = omega (arith, file-few file);
        place = rw (p, add-one) next;
      }

  pub place_inside : (i at : ℕ) → i ≤ length (rows_of file) → at ≡ place_after file i → at ≤ length file
  place_inside i at h p = rw p (place-fits file e i h)

  pub place-whole : (i at : ℕ) → i < length (rows_of file) → at ≡ place_after file i → chunk_fault (is_llc file) (mark_of file) (drop at file) ≡ 0
  place-whole i at h p = rw p (row-unfaulted file e i h)

  -- the serial number of its chunk is the row's
  pub row_has : (i at : ℕ) → i < length (rows_of file) → at ≡ place_after file i → (x : List ℕ) → x ≡ serial_of (mark_of file) (drop at file)
      → x ≡ (row_no (rows_of file) i).serial
  row_has i at h p x is = rw (row-serial file e i h, ← p) is

  -- ---- a step

  stopped-step : (i k : ℕ) → Stopped file i k → Err k ≡ step_of file i
  unfolding step_of
  stopped-step i k w = rw (le-ltb i (length (rows_of file)) (omega (arith, w.count)), w.number_is)

  -- the first fault at the chunk behind i rows; the order of the serials does not matter
  fault-is : (i : ℕ) → fault_after file i
      ≡ chunk_fault (is_llc file) (mark_of file) (drop (place_after file i) file)
      ⊳ require (not (known (serial_of (mark_of file) (drop (place_after file i) file)) (serials_of (take i (rows_of file))))) 9
  unfolding fault_after next_fault rest_after serials_past
  fault-is i = rw (known_past (serial_of (mark_of file) (drop (place_after file i) file)) (take i (rows_of file)))

  -- row i is there
  pub step_row : (i at : ℕ) → i < length (rows_of file) → at ≡ place_after file i → (l : Layout) → l ≡ chunk_at file at
      → Ok l ≡ step_of file i
  unfolding step_of
  step_row i at h p l is = rw (lt-ltb i (length (rows_of file)) h, is, p)

  module _ (i at : ℕ) (h : i ≤ length (rows_of file)) (p : at ≡ place_after file i) where
    ended : rest_after file i ≡ [] → at ≡ length file
    unfolding rest_after
    ended q =
        let k = simp length-drop at (ap length q) in
        omega (arith, place-fits file e i h)

    pub step_end : at ≡ length file → Err 0 ≡ step_of file i
    unfolding rest_after is_empty
    step_end q =
        let nothing : drop (place_after file i) file ≡ [] = rw (sym p, q) (drop-length file) in
        after-cases file e i h
        (λ r w. stopped-step i 0 w)
        (λ k r z w. untrue (sym (rw nothing at r)))
        (λ g. untrue (sym (rw nothing at g.some_bytes)))

    -- bytes stand at the place
    module _ (more : at ≡ length file → ⊥) where
      stop-with : (k : ℕ) → fault_after file i ≡ suc k → Err (suc k) ≡ step_of file i
      stop-with k f =
          after-cases file e i h
          (λ r w. absurd (more (ended r)))
          (λ j r z w. stopped-step i (suc k) (rw (sym z ∙ f) at w))
          (λ g. absurd (omega (arith, f, g.no-fault)))

      go-with : fault_after file i ≡ 0 → i < length (rows_of file)
      go-with f =
          after-cases file e i h
          (λ r w. absurd (more (ended r)))
          (λ j r z w. absurd (omega (arith, f)))
          (λ g. g.inside)

      module _ (l : Layout) (is : l ≡ chunk_at file at) where
        number_is : l.number ≡ chunk_fault (is_llc file) (mark_of file) (drop (place_after file i) file)
        unfolding chunk_at
        number_is =
            ap (λ (x : Layout). x.number) is
            ∙ ap (λ (q : ℕ). (layout_of (is_llc file) (mark_of file) (drop q file)).number) p
            ∙ layout-number (is_llc file) (mark_of file) (drop (place_after file i) file)

        pub step-fault : (l.number ≡ 0 → ⊥) → Err l.number ≡ step_of file i
        step-fault y =
            cases l.number (λ z. absurd (y z))
            (λ k z. ap (λ (n : ℕ). Err n) z ∙ stop-with k (fault-is i ∙ rw (sym number_is, z) (⊳-stop (suc k) _ (λ q. omega arith))))

        module _ (z : l.number ≡ 0) (b : Bool) (x : List ℕ) (serial-is : x ≡ serial_of (mark_of file) (drop at file)) (seen-is : b ≡ known x (serials_of (take i (rows_of file)))) where
          seen_here : b ≡ known (serial_of (mark_of file) (drop (place_after file i) file)) (serials_of (take i (rows_of file)))
          seen_here = rw (sym p, sym serial-is) seen-is

          pub step-seen : b ≡ true → Err 9 ≡ step_of file i
          step-seen y =
              stop-with 8 (fault-is i ∙ rw (sym number_is, z, sym seen_here, y) (⊳-go 0 _ refl ∙ require-unmet false 9 refl))

          no-fault : b ≡ false → fault_after file i ≡ 0
          no-fault y = fault-is i ∙ rw (sym number_is, z, sym seen_here, y) (⊳-go 0 _ refl ∙ require-met true 9 refl)

          pub step-turn : b ≡ false → Turn file i at l
          step-turn y = turn i at l (go-with (no-fault y)) p is

          pub step-new : b ≡ false → Ok l ≡ step_of file i
          step-new y = step_row i at (go-with (no-fault y)) p l is

-- ---- the serial number of the chunk of row j

module _ (x file : List ℕ) (e : header_fault file ≡ 0) (j at : ℕ) (h : j < length (rows_of file)) (p : at ≡ place_after file j)
    (b : Bool) (t : List ℕ) (serial-is : t ≡ serial_of (mark_of file) (drop at file)) (same-is : b ≡ same_serial x t) where
  same_row : b ≡ same_serial x (row_no (rows_of file) j).serial
  same_row = rw (← row_has file e j at h p t serial-is) same-is

  pub seen-passed : known x (serials_of (take j (rows_of file))) ≡ false → b ≡ false → known x (serials_of (take (j + 1) (rows_of file))) ≡ false
  seen-passed k y = rw add-one (known_more x (rows_of file) j h ∙ rw (k, sym same_row, y))

  pub seen_more : (k : Bool) → k ≡ known x (serials_of (take j (rows_of file))) → (k || b) ≡ known x (serials_of (take (j + 1) (rows_of file)))
  seen_more k e = rw add-one (sym (known_more x (rows_of file) j h ∙ rw (← e, ← same_row)))

  with-there : known x (serials_of (take j (rows_of file))) ≡ false → b ≡ true → j ≡ row_with x (rows_of file)
  with-there k y = with-here x (rows_of file) j h k (sym same_row ∙ y)

  -- without a look at the rows before it: serial numbers are in one row only
  pub row-only : b ≡ true → row_with x (rows_of file) ≡ j
  row-only y = with-only x (rows_of file) j h (file-fresh file) (sym same_row ∙ y)

  pub row_other : b ≡ false → row_with x (rows_of file) ≡ j → ⊥
  row_other y = with-other x (rows_of file) j h (sym same_row ∙ y)

  pub between-here : (i k : ℕ) → i ≤ j → j < k → b ≡ true → Ok (record { row = j; place = at }) ≡ between_of file i k x
  unfolding between_of
  between-here i k l m y = rw (row-only y, le-leb i j l, lt-ltb j k m, p)

  pub numbered-here : known x (serials_of (take j (rows_of file))) ≡ false → b ≡ true → Some (record { row = j; place = at }) ≡ numbered_of file x
  unfolding numbered_of
  numbered-here k y = rw (← with-there k y, lt-ltb j (length (rows_of file)) h, row-place file e j h, p)

-- no row of the first i has the serial number
module _ (x file : List ℕ) (i : ℕ) (h : i ≤ length (rows_of file)) (k : known x (serials_of (take i (rows_of file))) ≡ false) where
  pub numbered-none : length (rows_of file) ≤ i → None ≡ numbered_of file x
  unfolding numbered_of
  numbered-none l = rw (le-ltb (row_with x (rows_of file)) (length (rows_of file)) (omega (arith, with-least x (rows_of file) i h k)))

-- ---- a search among the rows from i up to k

module _ (x file : List ℕ) (i k : ℕ) where
  pub between_none : (i ≤ row_with x (rows_of file) → k ≤ row_with x (rows_of file)) → (at : ℕ) → at ≡ place_after file k
      → Err at ≡ between_of file i k x
  unfolding between_of
  between_none f at p =
      test (leb i (row_with x (rows_of file)))
      (λ q. rw (q, le-ltb (row_with x (rows_of file)) k (f (leb-true _ _ q)), p))
      (λ q. rw (q, p))

  module _ (r : Result Placed ℕ) (is : r ≡ between_of file i k x) where
    pub between_is : is_ok r ≡ (leb i (row_with x (rows_of file)) && ltb (row_with x (rows_of file)) k)
    unfolding between_of
    between_is = ap is_ok is ∙ test (leb i (row_with x (rows_of file)) && ltb (row_with x (rows_of file)) k) (λ q. rw q) (λ q. rw q)

  module _ (p : Placed) (is : Ok p ≡ between_of file i k x) where
    pub between-there : header_fault file ≡ 0 → k ≤ length (rows_of file) → Some p ≡ numbered_of file x
    unfolding between_of numbered_of
    between-there e h =
        let w = row_with x (rows_of file) in
        let q = sym (between_is (Ok p) is) in
        let l : w < k = ltb-true _ _ (and_both (leb i w) (ltb w k) q).1 in
        let inside : w < length (rows_of file) = omega arith in
        ap result_ok is ∙ rw (q, lt-ltb _ _ inside, row-place file e w inside)

-- from the first row on
pub between_known : (x file : List ℕ) (k : ℕ) → k ≤ length (rows_of file) → (r : Result Placed ℕ) → r ≡ between_of file 0 k x → is_ok r ≡ known x (serials_of (take k (rows_of file)))
between_known x file k h r is =
    between_is x file 0 k r is ∙ rw (le-leb 0 (row_with x (rows_of file)) (omega arith)) (known-with x (rows_of file) k h)

-- first from row m up to row i, then before row m
module _ (x file : List ℕ) (m i : ℕ) (l : m ≤ i) where
  pub between-late : (p : Placed) → Ok p ≡ between_of file m i x → Ok p ≡ between_of file 0 i x
  unfolding between_of
  between-late p is =
      let w = row_with x (rows_of file) in
      let q = sym (between_is x file m i _ is) in
      is ∙ rw (q, le-leb 0 w (omega arith), (and_both (leb m w) (ltb w i) q).1)

  -- where the first ended
  abbrev end_in : Result Placed ℕ → ℕ
  end_in (Ok p) = 0
  end_in (Err n) = n

  pub between-early : (end : ℕ) → Err end ≡ between_of file m i x → result_or (between_of file 0 m x) (Err end) ≡ between_of file 0 i x
  unfolding between_of
  between-early end is =
      let w = row_with x (rows_of file) in
      let none = sym (between_is x file m i _ is) in
      let end_is : end ≡ place_after file i = ap end_in is ∙ rw none in
      rw (le-leb 0 w (omega arith))
      (test (ltb w m)
      (λ q. rw (q, lt-ltb w i (omega (arith, ltb-true w m q))))
      (λ q. rw (q, rw (le-leb m w (ltb-false w m q)) at none, end_is)))
