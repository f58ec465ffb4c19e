-- The reading after a cut, into any table with a row more than the old file has: three cases, all of the new chunk,
-- nothing of it, or something that is no chunk.
--     Reads    what a reading gives, whatever the number of rows lent
--     After    the finished file: the old rows and the new one; any other: exactly the old rows, and number 0 only
--              where nothing is left of the new chunk
--     finished-reads   the finished file
--     after    every cut of an accepted append leaves one of the two
-- Assumes nothing.
use Prim.Native.Nat.{ℕ, suc, ◌+◌, ◌-◌, ◌<◌}
use mathlib.Core.Bool.{Bool, true, false}
use mathlib.Core.Path.{◌≡◌, refl, sym, ap, ◌∙◌}
use mathlib.Core.List.{List, [], ◌∷◌, ◌++◌, append-nil}
use native.Mathlib.Omega.{arith}
use lib.ListN.{length}
use lib.Seq.{drop-length}
use Rattle.metafile.specs.declared.Row.{Row}
use Rattle.metafile.specs.Bytes.{is_empty}
use Rattle.metafile.specs.Fields.{known}
use Rattle.metafile.specs.Header.{is_llc, mark_of}
use Rattle.metafile.specs.Chunk.{serial_of, row_at}
use Rattle.metafile.specs.Reading.{Rows, halt, onto, next_fault, read_rows, with_header, read_file, reading, rows_of}
use Rattle.metafile.specs.Append.{Given, first_end, second_end, third_end}
use Rattle.metafile.specs.Cut.{Write}
use Rattle.metafile.specs.Demand.{new_row}
use Rattle.laws.proofs.First.{untrue, ⊳-both, require-met}
use Rattle.chunk_laws.proofs.Chunk.{unfaulted}
use Rattle.chunk_laws.proofs.Rows.{some_bytes, past, read-end, read-stop, read_step, step-cases, next-whole}
use Rattle.chunk_laws.proofs.File.{file-goes-on}
use Rattle.chunk_laws.proofs.Serials.{not-past}
use Rattle.written_laws.specs.Taken.{Taken}
use Rattle.written_laws.proofs.Stretches.{chunk_bytes, length-third, length-chunk}
use Rattle.written_laws.proofs.Finished.{finished-whole, finished-end, finished-serial, finished-row}
use Rattle.demand.proofs.Cut.{left_of, whole-finished}

-- more rows lent than the old file has: these rows, this stop and number, and the header's sum as before
unfoldable pub Reads : List ℕ → List ℕ → List Row → ℕ → ℕ → Type 0
Reads old file rows stop number =
    (n : ℕ) → length (rows_of old) < n → read_file n file ≡ record { rows = rows; stop = stop; good = (reading old).good; number = number }

pub data After (old : List ℕ) (g : Given) (t : List ℕ) : Type 0 where
  all-of-it : t ≡ chunk_bytes old g → Reads old (old ++ t) (rows_of old ++ new_row old g (first_end old g) (third_end old g) ∷ []) (third_end old g) 0 → After old g t
  no_chunk : (number : ℕ) → (t ≡ chunk_bytes old g → ⊥) → Reads old (old ++ t) (rows_of old) (length old) number
      → (number ≡ 0 → t ≡ []) → (t ≡ [] → number ≡ 0) → After old g t

module _ (old : List ℕ) (g : Given) (a : Taken old g) where
  -- the serials of the old rows
  seen : List (List ℕ)
  seen = past (rows_of old) []

  -- ---- from the old end on

  next-finished : next_fault (is_llc old) (mark_of old) seen (chunk_bytes old g) ≡ 0
  unfolding next_fault seen known
  next-finished =
      let new = not-past g.description.serial (rows_of old) [] a.new-serial refl in
      ⊳-both _ _ (unfaulted (is_llc old) (mark_of old) (chunk_bytes old g) (finished-whole old g a)) (rw (finished-serial old g a, new) (require-met true 9 refl))

  chunk-some : is_empty (chunk_bytes old g) ≡ false
  chunk-some = some_bytes (chunk_bytes old g) (omega (arith, length-chunk old g a, length-third old g a))

  read-finished : (j : ℕ) → read_rows (suc j) (is_llc old) (mark_of old) seen (length old) (chunk_bytes old g)
      ≡ record { rows = row_at (mark_of old) (length old) (chunk_bytes old g) ∷ []; stop = length old + length (chunk_bytes old g); number = 0 }
  unfolding onto halt
  read-finished j =
      rw (
        read_step (is_llc old) (mark_of old) j seen (length old) (chunk_bytes old g) chunk-some next-finished,
        finished-end old g a,
        drop-length (chunk_bytes old g),
        read-end (is_llc old) (mark_of old) j (serial_of (mark_of old) (chunk_bytes old g) ∷ seen) (length old + length (chunk_bytes old g)),
      )

  -- ---- the whole file

  -- from what is read behind the old end, whatever the rows lent
  reads : (t : List ℕ) (r : Rows) → ((j : ℕ) → read_rows (suc j) (is_llc old) (mark_of old) seen (length old) t ≡ r)
      → Reads old (old ++ t) (rows_of old ++ r.rows) r.stop r.number
  unfolding Reads seen with_header onto
  reads t r h n enough =
      let j : ℕ = n - suc (length (rows_of old)) in
      let n-is : n ≡ length (rows_of old) + suc j = omega arith in
      rw (n-is, file-goes-on old t (suc j) a.some_bytes a.number-zero, h j)

  pub finished-reads : Reads old (old ++ chunk_bytes old g) (rows_of old ++ new_row old g (first_end old g) (third_end old g) ∷ []) (third_end old g) 0
  unfolding third_end second_end first_end
  finished-reads =
      let end : length old + length (chunk_bytes old g) ≡ third_end old g = omega (arith, length-chunk old g a) in
      reads (chunk_bytes old g)
      (record { rows = new_row old g (first_end old g) (third_end old g) ∷ []; stop = third_end old g; number = 0 })
      (λ j. rw (read-finished j, finished-row old g a, end))

  module _ (t : List ℕ) where
    -- number 0 at the old end: no bytes
    reads_none : t ≡ [] → After old g t
    unfolding halt
    reads_none e =
        no_chunk 0 (λ q. omega (arith, ap length (sym e ∙ q), length-chunk old g a, length-third old g a))
        (rw append-nil at (reads t (halt (length old) 0) (λ j. rw (e, read-end (is_llc old) (mark_of old) (suc j) seen (length old)))))
        (λ q. e) (λ q. refl)

    reads_all : t ≡ chunk_bytes old g → After old g t
    reads_all e = all-of-it e (rw e finished-reads)

    reads-fault : (k : ℕ) → is_empty t ≡ false → next_fault (is_llc old) (mark_of old) seen t ≡ suc k → After old g t
    unfolding halt is_empty
    reads-fault k some e =
        no_chunk (suc k) (λ q. omega (arith, e, rw (← q) at next-finished))
        (rw append-nil at (reads t (halt (length old) (suc k)) (λ j. read-stop (is_llc old) (mark_of old) (suc j) seen (length old) t k some e)))
        (λ q. absurd (omega arith))
        (λ q. untrue (sym (rw q at some)))

  pub after : (x : Write) (k : ℕ) (lost : ℕ → Bool) → After old g (left_of old g x k lost)
  after x k lost =
      let t : List ℕ = left_of old g x k lost in
      step-cases (is_llc old) (mark_of old) seen t (reads_none t) (reads-fault t)
      (λ some e. reads_all t (whole-finished old g a x k lost (next-whole (is_llc old) (mark_of old) seen t e)))
