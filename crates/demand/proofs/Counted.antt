-- What metafile's Cuts tries on two cuts holds of every append and every cut, by demand 3's reading.
--     counted   refused, or what is left has the old rows, and one more where it is the finished file
-- Assumes nothing.
use Prim.Native.Nat.{ℕ, suc, ◌+◌}
use mathlib.Core.Bool.{Bool, true, not}
use mathlib.Core.Path.{◌≡◌, sym, ap}
use mathlib.Core.List.{List, ◌++◌}
use native.Mathlib.Omega.{arith}
use lib.Dec.{eqb}
use lib.ListN.{length, take, length-append}
use borrow.Author.Tests.{eq-eqb}
use Rattle.metafile.specs.Bytes.{same}
use Rattle.metafile.specs.Reading.{Reading, rows_of}
use Rattle.metafile.specs.Answers.{flag, Outcome, first_refusal}
use Rattle.metafile.specs.Append.{Given, first_end, second_end, third_end, append_tests, append}
use Rattle.metafile.specs.Cut.{CutPoint, remains}
use Rattle.metafile.specs.Demand.{Accepted, finished}
use Rattle.metafile.proofs.Cuts.{taken, safe_count}
use Rattle.laws.proofs.First.{test, cases, or_left, or_right}
use Rattle.laws.proofs.Lists.{same_refl, same-eq}
use Rattle.laws.proofs.Outcomes.{outcome-refused, outcome-done}
use Rattle.written_laws.specs.Taken.{Taken}
use Rattle.written_laws.proofs.Taken.{accepted}
use Rattle.written_laws.proofs.Stretches.{chunk_bytes}
use Rattle.demand.proofs.Cut.{left_of}
use Rattle.demand.proofs.Buffer.{finished-is, remains-is}
use Rattle.demand.proofs.After.{After, all-of-it, no_chunk, after}
use Rattle.demand.proofs.Theorem.{reading-is, cancel}

-- the number of rows of what is left
unfoldable rows_counted : List ℕ → List ℕ → List ℕ → Bool
rows_counted old done left = eqb (length (rows_of left)) (length (rows_of old) + flag (same left done))

rows_left : (old : List ℕ) (g : Given) → Taken old g → (t : List ℕ) → After old g t → rows_counted old (old ++ chunk_bytes old g) (old ++ t) ≡ true
unfolding rows_counted rows_of flag
rows_left old g a t (all-of-it e r) =
    let is = ap (λ (x : Reading). x.rows) (reading-is old g a t _ _ _ r) in
    let whole : same (old ++ t) (old ++ chunk_bytes old g) ≡ true = rw e (same_refl (old ++ chunk_bytes old g)) in
    rw (is, whole) (eq-eqb _ _ (length-append (rows_of old) _))
rows_left old g a t (no_chunk number other r zero-nothing nothing-zero) =
    let is = ap (λ (x : Reading). x.rows) (reading-is old g a t _ _ _ r) in
    test (same (old ++ t) (old ++ chunk_bytes old g))
    (λ q. absurd (other (cancel old t (chunk_bytes old g) (same-eq _ _ q))))
    (λ q. rw (is, q) (eq-eqb (length (rows_of old)) (length (rows_of old) + 0) (omega arith)))

module _ (buffer : List ℕ) (len : ℕ) (g : Given) (cut : CutPoint) where
  when-refused : (n : ℕ) → first_refusal (append_tests buffer len g) ≡ suc n → not (taken (append buffer len g).answer) ≡ true
  unfolding append taken
  when-refused n z = ap (λ (o : Outcome). not (taken o.answer)) (sym (outcome-refused (append_tests buffer len g) buffer _ (suc n) (sym z) (λ q. omega arith)))

  when-taken : first_refusal (append_tests buffer len g) ≡ 0
      → rows_counted (take len buffer) (take (third_end (take len buffer) g) (append buffer len g).buffer)
      (remains (append buffer len g).buffer len (first_end (take len buffer) g) (second_end (take len buffer) g) (third_end (take len buffer) g) cut)
      ≡ true
  unfolding Accepted append finished
  when-taken z =
      let e = ap (λ (o : Outcome). o.answer) (sym (outcome-done (append_tests buffer len g) buffer _ z)) in
      let d = accepted buffer len g _ _ _ e in
      let t : List ℕ = left_of (take len buffer) g cut.write cut.kept cut.lost in
      rw (remains-is buffer len g _ _ _ d cut, finished-is buffer len g _ _ _ d)
      (rows_left (take len buffer) g d.is-taken t (after (take len buffer) g d.is-taken cut.write cut.kept cut.lost))

  pub counted : safe_count buffer len g cut ≡ true
  unfolding safe_count rows_counted
  counted =
      cases (first_refusal (append_tests buffer len g))
      (λ z. or_right (not (taken (append buffer len g).answer)) _ (when-taken z))
      (λ n z. or_left (not (taken (append buffer len g).answer)) _ (when-refused n z))
