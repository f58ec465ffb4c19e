-- Serials in a reading, and looking one up ("9 whole chunk, serial already in a row"; "Parent of row k, dependency j").
--     fresh file-fresh     the serials of a reading's rows are new, one after another
--     row_with-self         so a row's serial is found at that row
--     row_with-le row_with-found row_with-missing   rows behind others change nothing that was found before
--     not-past             a serial in no row is new after these rows
-- Assumes nothing.
use Prim.Native.Nat.{ℕ, zero, suc, ◌+◌, ◌≤◌, ◌<◌}
use mathlib.Core.Bool.{Bool, true, false, not, ◌&&◌}
use mathlib.Core.Path.{◌≡◌, refl, ap}
use mathlib.Core.List.{List, [], ◌∷◌, ◌++◌}
use native.Mathlib.Omega.{arith}
use lib.ListN.{length, drop}
use borrow.Author.Tests.{not-true}
use Rattle.metafile.specs.declared.Row.{Row}
use Rattle.metafile.specs.Fields.{same_serial, known}
use Rattle.metafile.specs.Header.{is_llc, mark_of, header_end}
use Rattle.metafile.specs.Chunk.{chunk_end, serial_of, row_at}
use Rattle.metafile.specs.Reading.{halt, onto, next_fault, read_rows, rows_of, serials_of}
use Rattle.metafile.specs.Append.{row_no}
use Rattle.metafile.specs.Calls.{row_with}
use Rattle.laws.proofs.First.{test, and_both, both-and, or-false, ⊳-right, require-true}
use Rattle.laws.proofs.SameSerial.{serial-refl}
use Rattle.chunk_laws.proofs.Rows.{past, read-end, read-stop, read_step, read-full, step-cases}
use Rattle.chunk_laws.proofs.File.{rows_behind, rows-begun, rows-unbegun, header-cases}

-- ---- new serials

unfoldable pub fresh : List (List ℕ) → List Row → Bool
fresh seen [] = true
fresh seen (r ∷ rs) = not (known r.serial seen) && fresh (r.serial ∷ seen) rs

next-new : (llc : Bool) (m : List ℕ) (seen : List (List ℕ)) (s : List ℕ) → next_fault llc m seen s ≡ 0 → not (known (serial_of m s) seen) ≡ true
unfolding next_fault
next-new llc m seen s e = require-true _ 8 (⊳-right _ _ e)

pub rows-fresh : (n : ℕ) (llc : Bool) (m : List ℕ) (seen : List (List ℕ)) (p : ℕ) (s : List ℕ) → fresh seen (read_rows n llc m seen p s).rows ≡ true
unfolding halt onto fresh row_at
rows-fresh zero llc m seen p s =
    step-cases llc m seen s
    (λ q. rw (q, read-end llc m zero seen p))
    (λ j q e. rw (read-stop llc m zero seen p s j q e))
    (λ q e. rw (read-full llc m seen p s q e))
rows-fresh (suc n) llc m seen p s =
    step-cases llc m seen s
    (λ q. rw (q, read-end llc m (suc n) seen p))
    (λ j q e. rw (read-stop llc m (suc n) seen p s j q e))
    (λ q e. rw (read_step llc m n seen p s q e)
    (both-and _ _ (next-new llc m seen s e) (rows-fresh n llc m (serial_of m s ∷ seen) (p + chunk_end m s) (drop (chunk_end m s) s))))

pub file-fresh : (file : List ℕ) → fresh [] (rows_of file) ≡ true
unfolding rows_behind
file-fresh file =
    header-cases file
    (λ e. rw (rows-begun file e) (rows-fresh (length file) (is_llc file) (mark_of file) [] (header_end file) (drop (header_end file) file)))
    (λ e. rw (rows-unbegun file e) (unfold fresh in refl))

pub not-past : (x : List ℕ) (rs : List Row) (seen : List (List ℕ)) → known x (serials_of rs) ≡ false → known x seen ≡ false → known x (past rs seen) ≡ false
unfolding past serials_of known
not-past x [] seen p q = q
not-past x (r ∷ rs) seen p q =
    let h = or-false (same_serial x r.serial) (known x (serials_of rs)) p in
    not-past x rs (r.serial ∷ seen) h.1 (rw h.0 q)

-- ---- looking a serial up

pub row_with-le : (x : List ℕ) (rs : List Row) → row_with x rs ≤ length rs
unfolding row_with
row_with-le x [] = omega arith
row_with-le x (r ∷ rs) =
    let h = row_with-le x rs in
    test (same_serial x r.serial) (λ e. rw e (omega arith)) (λ e. rw e (omega arith))

pub row_with-found : (x : List ℕ) (rs us : List Row) → row_with x rs < length rs → row_with x (rs ++ us) ≡ row_with x rs
unfolding row_with
row_with-found x [] us h = absurd (omega arith)
row_with-found x (r ∷ rs) us h =
    test (same_serial x r.serial) (λ e. rw e) (λ e. let k = rw e at h in rw e (ap suc (row_with-found x rs us (omega arith))))

pub row_with-missing : (x : List ℕ) (rs us : List Row) → length rs ≤ row_with x rs → length rs ≤ row_with x (rs ++ us)
unfolding row_with
row_with-missing x [] us h = omega arith
row_with-missing x (r ∷ rs) us h =
    test (same_serial x r.serial)
    (λ e. let k = rw e at h in absurd (omega arith))
    (λ e. let k = rw e at h in let ih = row_with-missing x rs us (omega arith) in rw e (omega arith))

-- a row's serial is none of those seen before
not_seen : (rs : List Row) (seen : List (List ℕ)) (k : ℕ) → k < length rs → fresh seen rs ≡ true → known (row_no rs k).serial seen ≡ false
unfolding fresh row_no known
not_seen [] seen k h f = absurd (omega arith)
not_seen (r ∷ rs) seen zero h f = not-true _ (and_both (not (known r.serial seen)) _ f).0
not_seen (r ∷ rs) seen (suc k) h f =
    (or-false (same_serial (row_no rs k).serial r.serial) (known (row_no rs k).serial seen)
    (not_seen rs (r.serial ∷ seen) k (omega arith) (and_both (not (known r.serial seen)) _ f).1)).1

pub row_with-self : (rs : List Row) (seen : List (List ℕ)) (k : ℕ) → k < length rs → fresh seen rs ≡ true → row_with (row_no rs k).serial rs ≡ k
unfolding fresh row_no row_with known
row_with-self [] seen k h f = absurd (omega arith)
row_with-self (r ∷ rs) seen zero h f = rw (serial-refl r.serial)
row_with-self (r ∷ rs) seen (suc k) h f =
    let rest = (and_both (not (known r.serial seen)) _ f).1 in
    let other = (or-false (same_serial (row_no rs k).serial r.serial) (known (row_no rs k).serial seen) (not_seen rs (r.serial ∷ seen) k (omega arith) rest)).0 in
    rw other (ap suc (row_with-self rs (r.serial ∷ seen) k (omega arith) rest))
