-- Files that only begin and append made have no circle: every dependency in them names an earlier row.
--     rowless-earlier begun-earlier   a file without rows; what begin wrote
--     appended-earlier                an accepted append keeps it so
--     earlier-open                    where it is so there is no circle, and none is missing
-- Assumes nothing.
use Prim.Native.Nat.{ℕ, ◌^◌, ◌≤◌, ◌<◌}
use mathlib.Core.Bool.{false}
use mathlib.Core.Path.{◌≡◌, sym, ap, ◌∙◌}
use mathlib.Core.List.{List, [], ◌∷◌, ◌++◌}
use native.Mathlib.Omega.{arith}
use lib.Dec.{eqb}
use lib.ListN.{length, take, length-append}
use borrow.Author.Tests.{eqb-true, eqb-false}
use Rattle.metafile.specs.declared.Row.{Row}
use Rattle.metafile.specs.Reading.{Reading, reading, rows_of}
use Rattle.metafile.specs.Answers.{result, flag}
use Rattle.metafile.specs.Begin.{BeginGiven, begin}
use Rattle.metafile.specs.Append.{Given, row_no}
use Rattle.metafile.specs.Calls.{parent_row, agree, parent}
use Rattle.metafile.specs.Demand.{Accepted, finished, new_row}
use Rattle.metafile.specs.Ancestors.{missing, circular}
use Rattle.laws.proofs.First.{test}
use Rattle.laws.proofs.Begun.{begun-reading}
use Rattle.written_laws.specs.Taken.{Taken}
use Rattle.written_laws.proofs.Taken.{accepted}
use Rattle.written_laws.proofs.Stretches.{chunk_bytes}
use Rattle.demand.proofs.Buffer.{finished-is}
use Rattle.demand.proofs.Asked.{parent-asked, asked-parent, answer-found, answer-missing, answer-cases, none≢some}
use Rattle.demand.proofs.Parents.{row_same, found-kept, new-last, named-below, new-parent_row}
use Rattle.demand.proofs.Theorem.{small-enough}
use Rattle.demand.proofs.RoundTrip.{round_trip}
use Rattle.ancestor_laws.specs.Earlier.{Earlier}
use Rattle.ancestor_laws.proofs.Reached.{depends-inside, depends-exactly}
use Rattle.ancestor_laws.proofs.Listed.{missing-none}
use Rattle.ancestor_laws.proofs.Circles.{parents-first}

-- ---- begin

-- a file without rows has no dependencies
pub rowless-earlier : (file : List ℕ) → rows_of file ≡ [] → Earlier file
rowless-earlier file e k j d =
    let none : length (rows_of file) ≡ 0 = rw e in
    absurd (omega (arith, depends-inside file k j d))

-- what begin wrote has no rows
pub begun-earlier : (b : BeginGiven) (buffer : List ℕ) (len : ℕ) → (begin b buffer).answer ≡ result (len ∷ [])
    → Earlier (take len (begin b buffer).buffer)
unfolding rows_of reading
begun-earlier b buffer len e =
    rowless-earlier (take len (begin b buffer).buffer) (ap (λ (x : Reading). x.rows) (begun-reading b buffer len e _))

-- ---- append

-- the row that parent answers is the one that the dependency names
answered-row : (file : List ℕ) (k j i a : ℕ) → parent file k j ≡ result (i ∷ a ∷ []) → parent_row file k j ≡ i
answered-row file k j i a e =
    let h = (asked-parent file k j (i ∷ a ∷ []) e).1 in
    answer-cases file k j
    (λ f. first-same _ _ _ _ (sym (answer-found file k j f) ∙ h))
    (λ f. none≢some i (a ∷ []) (sym (answer-missing file k j f) ∙ h))
  where
    first-same : (x y u v : ℕ) → result (x ∷ u ∷ []) ≡ result (y ∷ v ∷ []) → x ≡ y
    first-same x y u v q = cc

abbrev new_file : List ℕ → Given → List ℕ
new_file old g = old ++ chunk_bytes old g

module _ (old : List ℕ) (g : Given) (a : Taken old g) (e₁ e₃ : ℕ)
    (is : rows_of (new_file old g) ≡ rows_of old ++ new_row old g e₁ e₃ ∷ [])
    (small : length (new_file old g) ≤ 2 ^ 30) where
  -- an old dependency names the row that it named
  old_row : Earlier old → (k j : ℕ) → k < length (rows_of old) → j < (row_no (rows_of (new_file old g)) k).dependencies
      → parent_row (new_file old g) k j < k
  old_row before k j h d =
      let us : List Row = new_row old g e₁ e₃ ∷ [] in
      let there : j < (row_no (rows_of old) k).dependencies = rw (row_same old (chunk_bytes old g) us is small k h) at d in
      let first : parent_row old k j < k = before k j there in
      let short : length old ≤ 2 ^ 30 = omega (arith, simp length-append at small) in
      let said : parent old k j ≡ result (parent_row old k j ∷ flag (agree old k j) ∷ []) =
      parent-asked old k j short (record { row-there = h; dependency-there = there }) ∙ answer-found old k j (omega arith) in
      rw (answered-row (new_file old g) k j _ _ (found-kept old (chunk_bytes old g) us is small k j _ _ said)) first

  -- a new one names an old row
  new-row : (j : ℕ) → j < (row_no (rows_of (new_file old g)) (length (rows_of old))).dependencies
      → parent_row (new_file old g) (length (rows_of old)) j < length (rows_of old)
  unfolding new_row
  new-row j d =
      let there : j < length g.parents = rw (new-last old g a e₁ e₃ is small) at d in
      rw (new-parent_row old g a e₁ e₃ is small j there) (named-below old g a e₁ e₃ is small j there)

  new-earlier : Earlier old → Earlier (new_file old g)
  new-earlier before k j d =
      let inside = simp (is, length-append) at (depends-inside (new_file old g) k j d) in
      test (eqb k (length (rows_of old)))
      (λ q. let last = eqb-true k (length (rows_of old)) q in rw last (new-row j (rw last at d)))
      (λ q. old_row before k j (omega (arith, eqb-false k (length (rows_of old)) q)) d)

-- after an accepted append too every dependency names an earlier row
pub appended-earlier : (buffer : List ℕ) (len : ℕ) (g : Given) (e₁ e₂ e₃ : ℕ) → Accepted buffer len g e₁ e₂ e₃
    → Earlier (take len buffer) → Earlier (finished buffer len g e₃)
unfolding rows_of
appended-earlier buffer len g e₁ e₂ e₃ e before =
    let d = accepted buffer len g e₁ e₂ e₃ e in
    let done-is = finished-is buffer len g e₁ e₂ e₃ d in
    let is = ap (λ (x : Reading). x.rows) (rw done-is at (round_trip buffer len g e₁ e₂ e₃ e).read_back) in
    rw done-is (new-earlier (take len buffer) g d.is-taken e₁ e₃ is (small-enough buffer len g e₁ e₂ e₃ d) before)

-- ---- what follows

-- where every dependency names an earlier row there is no circle, and none is missing
pub earlier-open : (file : List ℕ) → Earlier file → (k : ℕ) → (circular file k ≡ false) × (missing file k ≡ 0)
earlier-open file before k = (
  parents-first file
      (λ a b s. let h = (depends-exactly file a b).0 s in omega (arith, before a h.1.0 h.1.1, h.1.2))
      k,
  (missing-none file k).1 (λ i j r d. omega (arith, before i j d, depends-inside file i j d)),
)
