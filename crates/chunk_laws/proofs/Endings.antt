-- "How the end was found": what every row of every reading says of it, for any bytes and any lent table.
--     Ended, placed-ending   what the chunk's own bytes say, and one of the three; of a row that is placed
--     read-row               a row of a reading is that of a reading with rows enough
--     read_ending            every row of every reading
-- Assumes nothing.
use Prim.Native.Nat.{ℕ, zero, suc, ◌<◌}
use mathlib.Core.Bool.{Bool, true, false}
use mathlib.Core.Path.{◌≡◌, ap, ◌∙◌}
use mathlib.Core.List.{List, ◌∷◌, []}
use native.Mathlib.Omega.{arith}
use lib.ListN.{length, take, drop, length-take, get_or-append}
use lib.Seq.{get_or-take}
use Rattle.metafile.specs.declared.Row.{Row}
use Rattle.metafile.specs.Header.{is_llc, mark_of}
use Rattle.metafile.specs.Chunk.{is_multi, header_bytes, content_count, by_count, by_mark, by_mini_chunks, ending_of, chunk_ending, row_at}
use Rattle.metafile.specs.Reading.{read_file, rows_of}
use Rattle.metafile.specs.Answers.{over_limit}
use Rattle.metafile.specs.Append.{no_row, row_no}
use Rattle.metafile.specs.Calls.{read_answer, nothing_read, filled, read}
use Rattle.laws.proofs.First.{test, cases}
use Rattle.chunk_laws.proofs.File.{file-rows}
use Rattle.chunk_laws.proofs.Places.{Placed, row-placed}

-- what a row says of the end of the chunk s
pub record Ended (s : List ℕ) (r : Row) : Type 0 where
  pub by-mini-chunks : is_multi s ≡ true → r.ending ≡ by_mini_chunks
  pub found : is_multi s ≡ false → content_count (drop (header_bytes s) s) ≡ 0 → r.ending ≡ by_mark
  pub counted : is_multi s ≡ false → (content_count (drop (header_bytes s) s) ≡ 0 → ⊥) → r.ending ≡ by_count
  pub one_of_three : r.ending < 3

ending-small : (b : Bool) (n : ℕ) → ending_of b n < 3
unfolding ending_of
ending-small true n = omega arith
ending-small false zero = omega arith
ending-small false (suc n) = omega arith

pub placed-ending : (llc : Bool) (m file : List ℕ) (r : Row) → Placed llc m file r → Ended (drop r.place file) r
unfolding row_at chunk_ending
placed-ending llc m file r w =
    let s : List ℕ = drop r.place file in
    let n : ℕ = content_count (drop (header_bytes s) s) in
    let is : r.ending ≡ ending_of (is_multi s) n = ap (λ (x : Row). x.ending) w.row in
    record {
      by-mini-chunks = λ t. is ∙ unfold ending_of in (rw t);
      found = λ f z. is ∙ unfold ending_of in (rw (f, z));
      counted = λ f z. cases n (λ q. absurd (z q)) (λ k q. is ∙ unfold ending_of in (rw (f, q)));
      one_of_three = rw is (ending-small (is_multi s) n);
    }

-- ---- every reading

module _ (file : List ℕ) (table : List Row) (k : ℕ) where
  row_of : k < length (read_file (length table) file).rows
      → (k < length (rows_of file)) × (row_no (filled (read_file (length table) file) table) k ≡ row_no (rows_of file) k)
  unfolding filled row_no
  row_of h =
      let rows : List Row = take (length table) (rows_of file) in
      let g : k < length rows = rw (file-rows (length table) file) at h in
      let few = simp length-take at g in
      (omega arith, rw (file-rows (length table) file) (get_or-append rows (drop (length rows) table) no_row k g ∙ get_or-take (length table) (rows_of file) k no_row (omega arith)))

  pub read-row : k < (read file table).answer.count → (k < length (rows_of file)) × (row_no (read file table).table k ≡ row_no (rows_of file) k)
  unfolding read read_answer nothing_read
  read-row h =
      test (over_limit (length file ∷ []))
      (λ t. absurd (omega (arith, rw t at h)))
      (λ f. rw f (row_of (rw f at h)))

  pub read_ending : k < (read file table).answer.count
      → let r : Row = row_no (read file table).table k in
      Ended (drop r.place file) r
  read_ending h =
      let e = read-row h in
      rw e.1 (placed-ending (is_llc file) (mark_of file) file (row_no (rows_of file) k) (row-placed file k e.0))
