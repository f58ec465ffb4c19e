-- The rows of a reading, from some place on ("Reading"): s is the file from the place p on.
--     read-end read-stop read_step read-full   one step
--     next-whole next-local   what stands at the place, with more bytes behind
--     past goes_on            a clean reading with more bytes behind has the same rows, and goes on at the old end
-- Assumes nothing.
use Prim.Native.Nat.{ℕ, zero, suc, ◌+◌, ◌<◌}
use mathlib.Core.Bool.{Bool, true, false}
use mathlib.Core.Path.{◌≡◌, refl, sym}
use mathlib.Core.List.{List, [], ◌∷◌, ◌++◌}
use native.Mathlib.Omega.{arith}
use native.Mathlib.Nat.{zero-add, add-zero, suc-add}
use lib.ListN.{length, drop, length-drop}
use lib.Seq.{drop-append-le}
use Rattle.metafile.specs.declared.Row.{Row}
use Rattle.metafile.specs.Bytes.{◌⊳◌, choose, is_empty}
use Rattle.metafile.specs.Chunk.{chunk_end, serial_of, row_at}
use Rattle.metafile.specs.Reading.{halt, onto, next_fault, read_rows}
use Rattle.laws.proofs.First.{test, cases, untrue, ⊳-left, ⊳-right, ⊳-both}
use Rattle.chunk_laws.proofs.Chunk.{Whole, whole, unfaulted, fits}
use Rattle.chunk_laws.proofs.Local.{whole-local, row_at-local, serial_of-local, chunk_end-local}

-- ---- no bytes, some bytes

pub empty : (s : List ℕ) → is_empty s ≡ true → s ≡ []
unfolding is_empty
empty [] e = refl
empty (x ∷ xs) e = untrue e

pub some_bytes : (s : List ℕ) → 0 < length s → is_empty s ≡ false
unfolding is_empty
some_bytes [] h = absurd (omega arith)
some_bytes (x ∷ xs) h = refl

not-empty : (s t : List ℕ) → is_empty s ≡ false → is_empty (s ++ t) ≡ false
unfolding is_empty
not-empty [] t e = untrue (sym e)
not-empty (x ∷ xs) t e = refl

-- ---- what stands at a place

pub next-whole : (llc : Bool) (m : List ℕ) (seen : List (List ℕ)) (s : List ℕ) → next_fault llc m seen s ≡ 0 → Whole llc m s
unfolding next_fault
next-whole llc m seen s e = whole llc m s (⊳-left _ _ e)

pub next-local : (llc : Bool) (m : List ℕ) (seen : List (List ℕ)) (s t : List ℕ) → next_fault llc m seen s ≡ 0 → next_fault llc m seen (s ++ t) ≡ 0
unfolding next_fault
next-local llc m seen s t e =
    let w = whole llc m s (⊳-left _ _ e) in
    ⊳-both _ _ (unfaulted llc m (s ++ t) (whole-local llc m s t w)) (rw (serial_of-local llc m s t w) (⊳-right _ _ e))

-- the serials in rows so far, after these rows
unfoldable pub past : List Row → List (List ℕ) → List (List ℕ)
past [] seen = seen
past (r ∷ rs) seen = past rs (r.serial ∷ seen)

-- the rows that k rows lent give are those that more bytes leave, and the reading goes on at the old end
unfoldable pub Goes_on : ℕ → Bool → List ℕ → List (List ℕ) → ℕ → List ℕ → Type 0
Goes_on k llc m seen p s =
    (n : ℕ) (t : List ℕ)
    → read_rows (length (read_rows k llc m seen p s).rows + n) llc m seen p (s ++ t)
    ≡ onto (read_rows k llc m seen p s).rows (read_rows n llc m (past (read_rows k llc m seen p s).rows seen) (p + length s) t)

module _ (llc : Bool) (m : List ℕ) where
  -- ---- one step

  pub read-end : (n : ℕ) (seen : List (List ℕ)) (p : ℕ) → read_rows n llc m seen p [] ≡ halt p 0
  unfolding read_rows is_empty
  read-end zero seen p = refl
  read-end (suc n) seen p = refl

  pub read-stop : (n : ℕ) (seen : List (List ℕ)) (p : ℕ) (s : List ℕ) (k : ℕ) → is_empty s ≡ false → next_fault llc m seen s ≡ suc k
      → read_rows n llc m seen p s ≡ halt p (suc k)
  unfolding read_rows choose ◌⊳◌
  read-stop zero seen p s k q e = rw (q, e)
  read-stop (suc n) seen p s k q e = rw (q, e)

  pub read_step : (n : ℕ) (seen : List (List ℕ)) (p : ℕ) (s : List ℕ) → is_empty s ≡ false → next_fault llc m seen s ≡ 0
      → read_rows (suc n) llc m seen p s
      ≡ onto (row_at m p s ∷ []) (read_rows n llc m (serial_of m s ∷ seen) (p + chunk_end m s) (drop (chunk_end m s) s))
  unfolding read_rows choose
  read_step n seen p s q e = rw (q, e)

  pub read-full : (seen : List (List ℕ)) (p : ℕ) (s : List ℕ) → is_empty s ≡ false → next_fault llc m seen s ≡ 0 → read_rows zero llc m seen p s ≡ halt p 10
  unfolding read_rows ◌⊳◌
  read-full seen p s q e = rw (q, e)

  -- the cases of a step: no bytes, a fault, a chunk
  pub step-cases : {A : Type 0} (seen : List (List ℕ)) (s : List ℕ) → (s ≡ [] → A) → ((k : ℕ) → is_empty s ≡ false → next_fault llc m seen s ≡ suc k → A)
      → (is_empty s ≡ false → next_fault llc m seen s ≡ 0 → A) → A
  step-cases seen s none stops goes =
      test (is_empty s) (λ q. none (empty s q)) (λ q. cases (next_fault llc m seen s) (λ e. goes q e) (λ k e. stops k q e))

  -- ---- more bytes behind a clean reading

  goes-on-end : (k : ℕ) (seen : List (List ℕ)) (p : ℕ) → Goes_on k llc m seen p []
  unfolding Goes_on onto past halt
  goes-on-end k seen p n t = rw (read-end k seen p, zero-add n, add-zero p)

  goes-on-step : (k : ℕ) (seen : List (List ℕ)) (p : ℕ) (s : List ℕ) → is_empty s ≡ false → next_fault llc m seen s ≡ 0
      → Goes_on k llc m (serial_of m s ∷ seen) (p + chunk_end m s) (drop (chunk_end m s) s) → Goes_on (suc k) llc m seen p s
  unfolding Goes_on onto past row_at
  goes-on-step k seen p s q e ih n t =
      let w = next-whole llc m seen s e in
      let f = fits llc m s w in
      let place : p + chunk_end m s + length (drop (chunk_end m s) s) ≡ p + length s = simp length-drop (omega arith) in
      rw (
        read_step k seen p s q e,
        suc-add,
        read_step _ seen p (s ++ t) (not-empty s t q) (next-local llc m seen s t e),
        row_at-local llc m s t w,
        serial_of-local llc m s t w,
        chunk_end-local llc m s t w,
        drop-append-le (chunk_end m s) s t f,
        ih n t,
        place,
      )

  pub goes_on : (k : ℕ) (seen : List (List ℕ)) (p : ℕ) (s : List ℕ) → (read_rows k llc m seen p s).number ≡ 0 → Goes_on k llc m seen p s
  unfolding halt onto
  goes_on zero seen p s z =
      step-cases seen s
      (λ q. rw q (goes-on-end zero seen p))
      (λ j q e. absurd (omega (arith, rw (read-stop zero seen p s j q e) at z)))
      (λ q e. absurd (omega (arith, rw (read-full seen p s q e) at z)))
  goes_on (suc k) seen p s z =
      step-cases seen s
      (λ q. rw q (goes-on-end (suc k) seen p))
      (λ j q e. absurd (omega (arith, rw (read-stop (suc k) seen p s j q e) at z)))
      (λ q e. goes-on-step k seen p s q e
      (goes_on k (serial_of m s ∷ seen) (p + chunk_end m s) (drop (chunk_end m s) s) (rw (read_step k seen p s q e) at z)))
