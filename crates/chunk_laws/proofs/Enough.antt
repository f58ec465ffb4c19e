-- How many rows are enough ("a reading with rows enough"): as many as there are bytes.
--     more_rows              more than that change nothing
--     fewer-rows rows-lent   n rows lent: the first n rows; where they hold all rows, the whole reading is the same
--     rows_few               a row takes at least 856 bytes
-- Assumes nothing.
use Prim.Native.Nat.{ℕ, zero, suc, ◌+◌, ◌*◌, ◌≤◌}
use mathlib.Core.Bool.{Bool}
use mathlib.Core.Path.{◌≡◌, sym, ap, ◌∙◌}
use mathlib.Core.List.{List, [], ◌∷◌}
use native.Mathlib.Omega.{arith}
use native.Mathlib.Nat.{suc-add}
use lib.ListN.{length, take, drop, length-drop}
use Rattle.metafile.specs.Chunk.{chunk_end, serial_of, row_at}
use Rattle.metafile.specs.Reading.{halt, onto, read_rows}
use Rattle.chunk_laws.proofs.Chunk.{fits, least, progress}
use Rattle.chunk_laws.proofs.Rows.{read-end, read-stop, read_step, read-full, step-cases, next-whole}

module _ (llc : Bool) (m : List ℕ) where
  shorter : (n : ℕ) (s : List ℕ) → length s ≤ suc n → length (drop (chunk_end m s) s) ≤ n
  shorter n s h = simp length-drop (omega (arith, progress m s))

  pub more_rows : (n k : ℕ) (seen : List (List ℕ)) (p : ℕ) (s : List ℕ) → length s ≤ n → read_rows (n + k) llc m seen p s ≡ read_rows n llc m seen p s
  more_rows zero k seen p [] h = read-end llc m (0 + k) seen p ∙ sym (read-end llc m zero seen p)
  more_rows zero k seen p (x ∷ xs) h = absurd (omega arith)
  more_rows (suc n) k seen p s h =
      rw suc-add
      (step-cases llc m seen s
      (λ q. rw q (read-end llc m (suc (n + k)) seen p ∙ sym (read-end llc m (suc n) seen p)))
      (λ j q e. read-stop llc m (suc (n + k)) seen p s j q e ∙ sym (read-stop llc m (suc n) seen p s j q e))
      (λ q e. read_step llc m (n + k) seen p s q e
      ∙ ap (onto (row_at m p s ∷ [])) (more_rows n k (serial_of m s ∷ seen) (p + chunk_end m s) (drop (chunk_end m s) s) (shorter n s h))
      ∙ sym (read_step llc m n seen p s q e)))

  -- n rows lent, of k that are enough: the first n rows
  pub fewer-rows : (k n : ℕ) (seen : List (List ℕ)) (p : ℕ) (s : List ℕ) → length s ≤ k
      → (read_rows n llc m seen p s).rows ≡ take n (read_rows k llc m seen p s).rows
  unfolding halt onto
  fewer-rows k zero seen p s h =
      step-cases llc m seen s
      (λ q. rw (q, read-end llc m zero seen p))
      (λ j q e. rw (read-stop llc m zero seen p s j q e))
      (λ q e. rw (read-full llc m seen p s q e))
  fewer-rows zero (suc n) seen p [] h = rw (read-end llc m (suc n) seen p, read-end llc m zero seen p)
  fewer-rows zero (suc n) seen p (x ∷ xs) h = absurd (omega arith)
  fewer-rows (suc k) (suc n) seen p s h =
      step-cases llc m seen s
      (λ q. rw (q, read-end llc m (suc n) seen p, read-end llc m (suc k) seen p))
      (λ j q e. rw (read-stop llc m (suc n) seen p s j q e, read-stop llc m (suc k) seen p s j q e))
      (λ q e. rw (read_step llc m n seen p s q e, read_step llc m k seen p s q e, fewer-rows k n (serial_of m s ∷ seen) (p + chunk_end m s) (drop (chunk_end m s) s) (shorter k s h)))

  -- n rows lent that hold all rows: the same reading
  pub rows-lent : (k n : ℕ) (seen : List (List ℕ)) (p : ℕ) (s : List ℕ) → length s ≤ k → length (read_rows k llc m seen p s).rows ≤ n
      → read_rows n llc m seen p s ≡ read_rows k llc m seen p s
  unfolding halt onto
  rows-lent zero n seen p [] h l = read-end llc m n seen p ∙ sym (read-end llc m zero seen p)
  rows-lent zero n seen p (x ∷ xs) h l = absurd (omega arith)
  rows-lent (suc k) zero seen p s h l =
      step-cases llc m seen s
      (λ q. rw q (read-end llc m zero seen p ∙ sym (read-end llc m (suc k) seen p)))
      (λ j q e. read-stop llc m zero seen p s j q e ∙ sym (read-stop llc m (suc k) seen p s j q e))
      (λ q e. absurd (omega (arith, rw (read_step llc m k seen p s q e) at l)))
  rows-lent (suc k) (suc n) seen p s h l =
      step-cases llc m seen s
      (λ q. rw q (read-end llc m (suc n) seen p ∙ sym (read-end llc m (suc k) seen p)))
      (λ j q e. read-stop llc m (suc n) seen p s j q e ∙ sym (read-stop llc m (suc k) seen p s j q e))
      (λ q e.
      let few = rw (read_step llc m k seen p s q e) at l in
      read_step llc m n seen p s q e
      ∙ ap (onto (row_at m p s ∷ [])) (rows-lent k n (serial_of m s ∷ seen) (p + chunk_end m s) (drop (chunk_end m s) s) (shorter k s h) (omega arith))
      ∙ sym (read_step llc m k seen p s q e))

  -- a row takes 856 bytes at least
  pub rows_few : (n : ℕ) (seen : List (List ℕ)) (p : ℕ) (s : List ℕ) → 856 * length (read_rows n llc m seen p s).rows ≤ length s
  unfolding halt onto
  rows_few zero seen p s =
      step-cases llc m seen s
      (λ q. rw (q, read-end llc m zero seen p) (omega arith))
      (λ j q e. rw (read-stop llc m zero seen p s j q e) (omega arith))
      (λ q e. rw (read-full llc m seen p s q e) (omega arith))
  rows_few (suc n) seen p s =
      step-cases llc m seen s
      (λ q. rw (q, read-end llc m (suc n) seen p) (omega arith))
      (λ j q e. rw (read-stop llc m (suc n) seen p s j q e) (omega arith))
      (λ q e.
      let ih = simp length-drop at (rows_few n (serial_of m s ∷ seen) (p + chunk_end m s) (drop (chunk_end m s) s)) in
      rw (read_step llc m n seen p s q e) (omega (arith, ih, least m s, fits llc m s (next-whole llc m seen s e))))
