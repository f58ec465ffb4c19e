-- The steps of a reading ("Reading"): what stands behind the first i rows of a file whose header is whole.
--     split file-split    a reading goes on behind its first i rows, at the place where the last of them ends
--     after-cases         there the reading stops (Stopped), or a chunk is there: the next row (Goes)
--     row-.. place-..     the row of a number: its place, its end, its chunk is whole; it lies inside the file
--     stop_is             the reading with rows enough stops behind its last row
--     lent-..             a reading into n rows: rows, stop, number, header sum
-- Assumes nothing.
use Prim.Native.Nat.{ℕ, zero, suc, ◌+◌, ◌-◌, ◌≤◌, ◌<◌, min}
use mathlib.Core.Bool.{Bool, false, cond}
use mathlib.Core.Path.{◌≡◌, refl, sym, ap, ◌∙◌}
use mathlib.Core.List.{List, [], ◌∷◌, ◌++◌, append-nil}
use native.Mathlib.Omega.{arith}
use native.Mathlib.Nat.{zero-add, add-zero, suc-add}
use lib.Dec.{ltb}
use lib.ListN.{length, take, drop, get_or, length-append}
use lib.Seq.{drop-drop, length-take-le, get_or_at}
use borrow.Author.Tests.{ltb-true, ltb-false}
use Rattle.metafile.specs.declared.Row.{Row}
use Rattle.metafile.specs.Bytes.{is_empty}
use Rattle.metafile.specs.Header.{is_llc, mark_of, header_fault, header_end, header_good}
use Rattle.metafile.specs.Chunk.{chunk_fault, chunk_end, serial_of, row_at}
use Rattle.metafile.specs.Reading.{Rows, halt, onto, next_fault, read_rows, Reading, with_header, read_file, reading, rows_of}
use Rattle.metafile.specs.Append.{no_row, row_no}
use Rattle.laws.proofs.First.{test, cases}
use Rattle.chunk_laws.proofs.Chunk.{Whole, unfaulted}
use Rattle.chunk_laws.proofs.Rows.{past, read-end, read-stop, read_step, read-full, step-cases, next-whole}
use Rattle.chunk_laws.proofs.File.{header-whole, fits-title, fits-header_end, rows_behind, read-begun, rows-begun, file-rows, file-reading, file-few}
use Rattle.chunk_laws.proofs.Places.{row-placed, placed_end}
use Rattle.walk.specs.Walk.{place_behind, place_after}

-- ---- a reading goes on behind its first rows

place-next : (p : ℕ) (r : Row) (rs : List Row) (i : ℕ) → place_behind p (r ∷ rs) (suc i) ≡ place_behind r.end rs i
unfolding place_behind row_no
place-next p r rs zero = refl
place-next p r rs (suc i) = refl

module _ (llc : Bool) (m file : List ℕ) where
  -- the reading into n rows behind the first i of these rows, the first of which would stand at p
  unfoldable pub onward : ℕ → List (List ℕ) → ℕ → List Row → ℕ → Rows
  onward n seen p rows i = read_rows n llc m (past (take i rows) seen) (place_behind p rows i) (drop (place_behind p rows i) file)

  onward-next : (n : ℕ) (seen : List (List ℕ)) (p : ℕ) (r : Row) (rs : List Row) (i : ℕ)
      → onward n seen p (r ∷ rs) (suc i) ≡ onward n (r.serial ∷ seen) r.end rs i
  unfolding onward past
  onward-next n seen p r rs i = rw (place-next p r rs i)

  onward-none : (n : ℕ) (seen : List (List ℕ)) (p : ℕ) (rows : List Row) → read_rows n llc m seen p (drop p file) ≡ onto [] (onward n seen p rows zero)
  unfolding onward past place_behind onto
  onward-none n seen p rows = refl

  none_lent : (seen : List (List ℕ)) (p : ℕ) (s : List ℕ) → (read_rows zero llc m seen p s).rows ≡ []
  unfolding halt
  none_lent seen p s =
      step-cases llc m seen s
      (λ q. rw (q, read-end llc m zero seen p))
      (λ j q e. rw (read-stop llc m zero seen p s j q e))
      (λ q e. rw (read-full llc m seen p s q e))

  -- n rows are lent, and give at least i rows
  pub split : (n i k : ℕ) (seen : List (List ℕ)) (p : ℕ) → i ≤ length (read_rows n llc m seen p (drop p file)).rows
      → read_rows (i + k) llc m seen p (drop p file)
      ≡ onto (take i (read_rows n llc m seen p (drop p file)).rows) (onward k seen p (read_rows n llc m seen p (drop p file)).rows i)
  unfolding onto halt row_at
  split n zero k seen p h = rw zero-add (onward-none k seen p (read_rows n llc m seen p (drop p file)).rows)
  split zero (suc i) k seen p h = absurd (omega (arith, rw (none_lent seen p (drop p file)) at h))
  split (suc n) (suc i) k seen p h =
      step-cases llc m seen (drop p file)
      (λ q. absurd (omega (arith, rw (q, read-end llc m (suc n) seen p) at h)))
      (λ j q e. absurd (omega (arith, rw (read-stop llc m (suc n) seen p (drop p file) j q e) at h)))
      (λ q e.
      let t : ℕ = p + chunk_end m (drop p file) in
      let few = rw (read_step llc m n seen p (drop p file) q e, drop-drop (chunk_end m (drop p file)) p file) at h in
      rw (
        suc-add,
        read_step llc m (i + k) seen p (drop p file) q e,
        read_step llc m n seen p (drop p file) q e,
        drop-drop (chunk_end m (drop p file)) p file,
        split n i k (serial_of m (drop p file) ∷ seen) t (omega arith),
        onward-next k seen p (row_at m p (drop p file)) (read_rows n llc m (serial_of m (drop p file) ∷ seen) t (drop t file)).rows i,
      ))

-- ---- behind the first i rows of a file

-- the serials so far, the bytes that follow, what stands there, the rest of a reading into n rows more
unfoldable pub serials_past : List ℕ → ℕ → List (List ℕ)
serials_past file i = past (take i (rows_of file)) []

unfoldable pub rest_after : List ℕ → ℕ → List ℕ
rest_after file i = drop (place_after file i) file

unfoldable pub fault_after : List ℕ → ℕ → ℕ
fault_after file i = next_fault (is_llc file) (mark_of file) (serials_past file i) (rest_after file i)

unfoldable pub rows_after : ℕ → List ℕ → ℕ → Rows
rows_after n file i = read_rows n (is_llc file) (mark_of file) (serials_past file i) (place_after file i) (rest_after file i)

-- the reading stops behind the first i rows, with this number
pub record Stopped (file : List ℕ) (i number : ℕ) : Type 0 where
  pub count : length (rows_of file) ≡ i
  pub stop : (reading file).stop ≡ place_after file i
  pub number_is : (reading file).number ≡ number

-- a chunk stands behind the first i rows: the next row
pub record Goes (file : List ℕ) (i : ℕ) : Type 0 where
  pub inside : i < length (rows_of file)
  pub some_bytes : is_empty (rest_after file i) ≡ false
  pub no-fault : fault_after file i ≡ 0
  pub row : row_no (rows_of file) i ≡ row_at (mark_of file) (place_after file i) (rest_after file i)

row-between : (rows : List Row) (i : ℕ) (r : Row) (more : List Row) → i ≤ length rows → rows ≡ take i rows ++ (r ∷ more)
    → (i < length rows) × (row_no rows i ≡ r)
unfolding row_no
row-between rows i r more h e =
    let front : length (take i rows) ≡ i = length-take-le i rows h in
    (omega (arith, simp length-append at (ap length e)), ap (λ (l : List Row). get_or l i no_row) e ∙ get_or_at (take i rows) r more no_row i front)

module _ (file : List ℕ) (e : header_fault file ≡ 0) where
  pub file-split : (i k : ℕ) → i ≤ length (rows_of file) → rows_behind (i + k) file ≡ onto (take i (rows_of file)) (rows_after k file i)
  unfolding rows_behind rows_after serials_past rest_after place_after onward
  file-split i k h =
      let few = rw (rows-begun file e) at h in
      rw (rows-begun file e) (split (is_llc file) (mark_of file) file (length file) i k [] (header_end file) few)

  reading-split : (i : ℕ) → i ≤ length (rows_of file) → rows_behind (length file) file ≡ onto (take i (rows_of file)) (rows_after (length file - i) file i)
  reading-split i h =
      let sums : length file ≡ i + (length file - i) = omega (arith, file-few file) in
      ap (λ (n : ℕ). rows_behind n file) sums ∙ file-split i (length file - i) h

  halted : (i k : ℕ) → i ≤ length (rows_of file) → rows_after (length file - i) file i ≡ halt (place_after file i) k → Stopped file i k
  unfolding reading with_header onto halt
  halted i k h none =
      let all = reading-split i h ∙ ap (onto (take i (rows_of file))) none in
      let rows : rows_of file ≡ take i (rows_of file) ++ [] = rows-begun file e ∙ ap (λ (r : Rows). r.rows) all in
      record {
        count = ap length rows ∙ ap length (append-nil (take i (rows_of file))) ∙ length-take-le i (rows_of file) h;
        stop = ap (λ (r : Reading). r.stop) (read-begun (length file) file e) ∙ ap (λ (r : Rows). r.stop) all;
        number_is = ap (λ (r : Reading). r.number) (read-begun (length file) file e) ∙ ap (λ (r : Rows). r.number) all;
      }

  going : (i j : ℕ) → i ≤ length (rows_of file) → length file - i ≡ suc j → is_empty (rest_after file i) ≡ false → fault_after file i ≡ 0 → Goes file i
  unfolding onto rows_after fault_after
  going i j h fuel q z =
      let m = mark_of file in
      let s = rest_after file i in
      let all =
      reading-split i h
      ∙ ap (λ (n : ℕ). onto (take i (rows_of file)) (rows_after n file i)) fuel
      ∙ ap (onto (take i (rows_of file))) (read_step (is_llc file) m j (serials_past file i) (place_after file i) s q z) in
      let next = row-between (rows_of file) i (row_at m (place_after file i) s) _ h (rows-begun file e ∙ ap (λ (r : Rows). r.rows) all) in
      record { inside = next.0; some_bytes = q; no-fault = z; row = next.1 }

  -- what stands behind the first i rows
  pub after-cases : {A : Type 0} (i : ℕ) → i ≤ length (rows_of file)
      → (rest_after file i ≡ [] → Stopped file i 0 → A)
      → ((k : ℕ) → is_empty (rest_after file i) ≡ false → fault_after file i ≡ suc k → Stopped file i (suc k) → A)
      → (Goes file i → A)
      → A
  unfolding rows_after fault_after
  after-cases i h none stops goes =
      let n = length file - i in
      let llc = is_llc file in
      let m = mark_of file in
      step-cases llc m (serials_past file i) (rest_after file i)
      (λ q. none q (halted i 0 h (rw q (read-end llc m n (serials_past file i) (place_after file i)))))
      (λ k q z. stops k q z (halted i (suc k) h (read-stop llc m n (serials_past file i) (place_after file i) (rest_after file i) k q z)))
      (λ q z. cases (length file - i)
      (λ f. absurd (omega (arith, file-few file, fits-title file (header-whole file e))))
      (λ j f. goes (going i j h f q z)))

  pub row-there : (i : ℕ) → i < length (rows_of file) → Goes file i
  row-there i h =
      after-cases i (omega arith)
      (λ q w. absurd (omega (arith, w.count)))
      (λ k q z w. absurd (omega (arith, w.count)))
      (λ g. g)

  -- ---- the row of a number

  module _ (i : ℕ) (h : i < length (rows_of file)) where
    pub row_is : row_no (rows_of file) i ≡ row_at (mark_of file) (place_after file i) (drop (place_after file i) file)
    unfolding rest_after
    row_is = (row-there i h).row

    pub row-place : (row_no (rows_of file) i).place ≡ place_after file i
    unfolding row_at
    row-place = ap (λ (r : Row). r.place) row_is

    pub row-end : (row_no (rows_of file) i).end ≡ place_after file (suc i)
    unfolding place_after place_behind
    row-end = refl

    pub row-serial : (row_no (rows_of file) i).serial ≡ serial_of (mark_of file) (drop (place_after file i) file)
    unfolding row_at
    row-serial = ap (λ (r : Row). r.serial) row_is

    pub row-whole : Whole (is_llc file) (mark_of file) (drop (place_after file i) file)
    unfolding fault_after rest_after
    row-whole = next-whole (is_llc file) (mark_of file) (serials_past file i) _ (row-there i h).no-fault

    pub row-unfaulted : chunk_fault (is_llc file) (mark_of file) (drop (place_after file i) file) ≡ 0
    row-unfaulted = unfaulted (is_llc file) (mark_of file) (drop (place_after file i) file) row-whole

    pub place-suc : place_after file (suc i) ≡ place_after file i + chunk_end (mark_of file) (drop (place_after file i) file)
    unfolding row_at
    place-suc = sym row-end ∙ ap (λ (r : Row). r.end) row_is

  pub place_none : place_after file zero ≡ header_end file
  unfolding place_after place_behind
  place_none = refl

  pub place-fits : (i : ℕ) → i ≤ length (rows_of file) → place_after file i ≤ length file
  place-fits zero h = rw place_none (fits-header_end file (header-whole file e))
  place-fits (suc i) h = rw (← row-end i h) (placed_end (is_llc file) (mark_of file) file (row_no (rows_of file) i) (row-placed file i h))

  -- the reading with rows enough stops behind its last row
  pub stop_is : (reading file).stop ≡ place_after file (length (rows_of file))
  stop_is =
      after-cases (length (rows_of file)) (omega arith)
      (λ q w. w.stop)
      (λ k q z w. w.stop)
      (λ g. absurd (omega (arith, g.inside)))

  -- ---- a reading into n rows

  -- fewer rows than chunks
  lent-full : (n : ℕ) → n < length (rows_of file) → read_file n file ≡ with_header (header_good file) (onto (take n (rows_of file)) (halt (place_after file n) 10))
  unfolding rows_after fault_after
  lent-full n h =
      let g = row-there n h in
      read-begun n file e
      ∙ ap (λ (k : ℕ). with_header (header_good file) (rows_behind k file)) (sym (add-zero n))
      ∙ ap (with_header (header_good file)) (file-split n zero (omega arith) ∙ ap (onto (take n (rows_of file))) (read-full (is_llc file) (mark_of file) (serials_past file n) (place_after file n) (rest_after file n) g.some_bytes g.no-fault))

  pub lent_rows : (n : ℕ) → (read_file n file).rows ≡ take n (rows_of file)
  lent_rows n = file-rows n file

  pub lent-stop : (n : ℕ) → (read_file n file).stop ≡ place_after file (min n (length (rows_of file)))
  unfolding with_header onto halt
  lent-stop n =
      test (ltb n (length (rows_of file)))
      (λ q.
      let h = ltb-true n (length (rows_of file)) q in
      let least : min n (length (rows_of file)) ≡ n = omega arith in
      rw (least, lent-full n h))
      (λ q.
      let h = ltb-false n (length (rows_of file)) q in
      let least : min n (length (rows_of file)) ≡ length (rows_of file) = omega arith in
      rw (least, file-reading n file h) stop_is)

  pub lent-number : (n : ℕ) → (read_file n file).number ≡ cond (ltb n (length (rows_of file))) 10 (reading file).number
  unfolding with_header onto halt
  lent-number n =
      test (ltb n (length (rows_of file)))
      (λ q. rw (q, lent-full n (ltb-true n (length (rows_of file)) q)))
      (λ q. rw (q, file-reading n file (ltb-false n (length (rows_of file)) q)))

  pub lent-good : (n : ℕ) → (read_file n file).good ≡ header_good file
  unfolding with_header
  lent-good n = rw (read-begun n file e)
