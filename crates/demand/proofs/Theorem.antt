-- Demand 3: for every accepted append, every cut point and every table with a row more than the old file has, the
-- bytes that the cut left are read as demanded. The reading is After.antt's, the parents are Parents.antt's; what is
-- left here is to put the clauses together, by the two cases finished and not finished.
--     demand3   the theorem
-- Assumes nothing.
use Prim.Native.Nat.{ℕ, ◌^◌, ◌≤◌, ◌<◌}
use mathlib.Core.Path.{◌≡◌, refl, sym, ap, ◌∙◌}
use mathlib.Core.Logic.{◌⊎◌, inl, inr}
use mathlib.Core.List.{List, [], ◌∷◌, ◌++◌, append_assoc, append-nil}
use native.Mathlib.Omega.{arith}
use lib.ListN.{length, take, drop, length-append}
use lib.Seq.{drop-append_seam}
use borrow.Author.Tests.{le-ltb}
use Rattle.metafile.specs.declared.Row.{Row}
use Rattle.metafile.specs.Reading.{Reading, read_file, reading, rows_of}
use Rattle.metafile.specs.Answers.{limit, over_limit}
use Rattle.metafile.specs.Append.{Given, first_end, second_end, third_end}
use Rattle.metafile.specs.Calls.{ReadOutcome, read_answer, filled, read}
use Rattle.metafile.specs.Demand.{new_row, HandedIn, Clean, Safe, Demand3}
use Rattle.chunk_laws.proofs.File.{clean-begun, header-whole, fits-header_end, header_end-least, file-few}
use Rattle.written_laws.specs.Taken.{Taken}
use Rattle.written_laws.proofs.Taken.{Appended, accepted}
use Rattle.written_laws.proofs.Stretches.{chunk_bytes, length-chunk}
use Rattle.demand.proofs.Cut.{left_of, left_of-length}
use Rattle.demand.proofs.Buffer.{finished-is, remains-is}
use Rattle.demand.proofs.After.{Reads, After, all-of-it, no_chunk, after}
use Rattle.written_laws.proofs.Handed.{handed-in}
use Rattle.demand.proofs.Parents.{found-kept, missing-late, missing-kept, new-parents}

-- ---- read, where 11 doesn't refuse

-- what read answers and leaves in the table, for a reading with these values
unfoldable pub read_with : Reading → List Row → ReadOutcome
read_with r table =
    record {
      answer = record { count = length r.rows; stop = r.stop; good = r.good; number = r.number };
      table = r.rows ++ drop (length r.rows) table;
    }

pub read_is : (file : List ℕ) (table : List Row) (r : Reading) → length file ≤ 2 ^ 30 → read_file (length table) file ≡ r → read file table ≡ read_with r table
unfolding read over_limit limit read_with read_answer filled
read_is file table r small e = rw (le-ltb (2 ^ 30) (length file) small, e)

-- a file that is read to its end has more bytes than rows
rows-less : (old : List ℕ) → 0 < length old → (reading old).number ≡ 0 → length (rows_of old) < length old
unfolding reading
rows-less old some z =
    let w = header-whole old (clean-begun (length old) old some z) in
    omega (arith, fits-header_end old w, header_end-least old, file-few old)

pub cancel : (a b c : List ℕ) → a ++ b ≡ a ++ c → b ≡ c
cancel a b c e = sym (drop-append_seam a b) ∙ ap (drop (length a)) e ∙ drop-append_seam a c

end_is : (old : List ℕ) (g : Given) → Taken old g → length (old ++ chunk_bytes old g) ≡ third_end old g
unfolding third_end second_end first_end
end_is old g a = simp length-append (omega (arith, length-chunk old g a))

-- the reading with rows enough, from what any number of rows gives
pub reading-is : (old : List ℕ) (g : Given) → Taken old g → (t : List ℕ) (rows : List Row) (stop number : ℕ) → Reads old (old ++ t) rows stop number
    → reading (old ++ t) ≡ record { rows = rows; stop = stop; good = (reading old).good; number = number }
unfolding Reads reading
reading-is old g a t rows stop number r =
    r (length (old ++ t)) (simp length-append (omega (arith, rows-less old a.some_bytes a.number-zero)))

rows-read : (old : List ℕ) (g : Given) → Taken old g → (t : List ℕ) (rows : List Row) (stop number : ℕ) → Reads old (old ++ t) rows stop number → rows_of (old ++ t) ≡ rows
unfolding rows_of
rows-read old g a t rows stop number r = ap (λ (x : Reading). x.rows) (reading-is old g a t rows stop number r)

module _ (old : List ℕ) (g : Given) (a : Taken old g) (small : length (old ++ chunk_bytes old g) ≤ 2 ^ 30) where
  -- "A cut append is never empty, since the old file has at least its header."
  some : (t : List ℕ) → 0 < length (old ++ t)
  some t = simp length-append (omega (arith, a.some_bytes))

  -- ---- the finished file

  module _ (r : Reads old (old ++ chunk_bytes old g) (rows_of old ++ new_row old g (first_end old g) (third_end old g) ∷ []) (third_end old g) 0) where
    rows-done : rows_of (old ++ chunk_bytes old g) ≡ rows_of old ++ new_row old g (first_end old g) (third_end old g) ∷ []
    rows-done = rows-read old g a (chunk_bytes old g) _ (third_end old g) 0 r

    pub handed-done : HandedIn old g (first_end old g) (second_end old g) (old ++ chunk_bytes old g) (chunk_bytes old g)
    handed-done = handed-in old g a (new-parents old g a (first_end old g) (third_end old g) rows-done small)

    module _ (table : List Row) (enough : length (rows_of old) < length table) where
      read_done : read (old ++ chunk_bytes old g) table
          ≡ read_with (record { rows = rows_of old ++ new_row old g (first_end old g) (third_end old g) ∷ []; stop = third_end old g; good = (reading old).good; number = 0 }) table
      unfolding Reads
      read_done = read_is (old ++ chunk_bytes old g) table _ small (r (length table) enough)

      safe-done : Safe old g (first_end old g) (second_end old g) (third_end old g) (old ++ chunk_bytes old g) (old ++ chunk_bytes old g) table
      unfolding read_with
      safe-done =
          record {
            old-count = λ q. absurd (q refl);
            old-rows = λ q. absurd (q refl);
            old-stop = λ q. absurd (q refl);
            new-count = λ q. rw read_done (simp length-append);
            new-rows = λ q. rw read_done (simp (length-append, append_assoc));
            new-stop = λ q. rw read_done;
            new-end = end_is old g a;
            handed-in = λ q. rw (drop-append_seam old (chunk_bytes old g)) handed-done;
            header-sum = rw read_done;
            found = found-kept old (chunk_bytes old g) _ rows-done small;
            missing = λ k j q. absurd (q refl);
            found-late = λ k j q e. missing-late old (chunk_bytes old g) _ rows-done small (omega arith) k j e;
            clean-if = λ q. record { some_bytes = some (chunk_bytes old g); number = rw read_done; stop = rw read_done (sym (end_is old g a)) };
            clean-only-if = λ q. inr refl;
          }

  -- ---- any other

  module _ (t : List ℕ) (number : ℕ) (other : t ≡ chunk_bytes old g → ⊥) (r : Reads old (old ++ t) (rows_of old) (length old) number)
      (zero-nothing : number ≡ 0 → t ≡ []) (nothing-zero : t ≡ [] → number ≡ 0) (fits-it : length (old ++ t) ≤ 2 ^ 30) where
    rows_other : rows_of (old ++ t) ≡ rows_of old ++ []
    rows_other = rows-read old g a t (rows_of old) (length old) number r ∙ sym (append-nil (rows_of old))

    not_done : old ++ t ≡ old ++ chunk_bytes old g → ⊥
    not_done q = other (cancel old t (chunk_bytes old g) q)

    module _ (table : List Row) (enough : length (rows_of old) < length table) where
      read-other : read (old ++ t) table ≡ read_with (record { rows = rows_of old; stop = length old; good = (reading old).good; number = number }) table
      unfolding Reads
      read-other = read_is (old ++ t) table _ fits-it (r (length table) enough)

      clean-other : (old ++ t ≡ old) ⊎ (old ++ t ≡ old ++ chunk_bytes old g) → Clean (old ++ t) (read (old ++ t) table)
      unfolding read_with
      clean-other (inl q) =
          let nothing : t ≡ [] = cancel old t [] (q ∙ sym (append-nil old)) in
          record { some_bytes = some t; number = rw read-other (nothing-zero nothing); stop = rw read-other (sym (ap length q)) }
      clean-other (inr q) = absurd (not_done q)

      safe-other : Safe old g (first_end old g) (second_end old g) (third_end old g) (old ++ chunk_bytes old g) (old ++ t) table
      unfolding read_with
      safe-other =
          record {
            old-count = λ q. rw read-other;
            old-rows = λ q. rw read-other;
            old-stop = λ q. rw read-other;
            new-count = λ q. absurd (not_done q);
            new-rows = λ q. absurd (not_done q);
            new-stop = λ q. absurd (not_done q);
            new-end = end_is old g a;
            handed-in = λ q. absurd (not_done q);
            header-sum = rw read-other;
            found = found-kept old t [] rows_other fits-it;
            missing = λ k j q e. missing-kept old t [] rows_other fits-it refl k j e;
            found-late = λ k j q. absurd (not_done q);
            clean-if = clean-other;
            clean-only-if = λ q. inl (rw (zero-nothing (rw read-other at q.number), append-nil));
          }

  -- ---- either

  safe : (t : List ℕ) → After old g t → length (old ++ t) ≤ 2 ^ 30 → (table : List Row) → length (rows_of old) < length table
      → Safe old g (first_end old g) (second_end old g) (third_end old g) (old ++ chunk_bytes old g) (old ++ t) table
  safe t (all-of-it e r) fits-it table enough = rw e (safe-done (rw e at r) table enough)
  safe t (no_chunk number other r zero-nothing nothing-zero) fits-it table enough =
      safe-other t number other r zero-nothing nothing-zero fits-it table enough

-- ---- the theorem

-- the new end is inside the lent buffer
pub small-enough : (buffer : List ℕ) (len : ℕ) (g : Given) (e₁ e₂ e₃ : ℕ) → Appended buffer len g e₁ e₂ e₃ → length (take len buffer ++ chunk_bytes (take len buffer) g) ≤ 2 ^ 30
small-enough buffer len g e₁ e₂ e₃ d =
    omega (arith, end_is (take len buffer) g d.is-taken, d.is-lent.room, d.is-lent.buffer-small)

pub demand3 : Demand3
unfolding Demand3
demand3 buffer len g e₁ e₂ e₃ e cut table enough =
    let old : List ℕ = take len buffer in
    let d = accepted buffer len g e₁ e₂ e₃ e in
    let a = d.is-taken in
    let small = small-enough buffer len g e₁ e₂ e₃ d in
    let t : List ℕ = left_of (take len buffer) g cut.write cut.kept cut.lost in
    let shorter : length (take len buffer ++ left_of (take len buffer) g cut.write cut.kept cut.lost) ≤ 2 ^ 30 =
    simp length-append (omega (arith, left_of-length (take len buffer) g a cut.write cut.kept cut.lost, simp length-append at small)) in
    rw (remains-is buffer len g e₁ e₂ e₃ d cut, finished-is buffer len g e₁ e₂ e₃ d, d.first-end, d.second-end, d.third-end)
    (safe old g a small t (after old g a cut.write cut.kept cut.lost) shorter table enough)
