-- A line looked up among the rows of a window: serial numbers are in one row only, so no row but the one found can declare it.
--     below_more      a test of the numbers below k + n, by those below k and a number that decides for the others
--     below-kept      what is declared stays declared
--     one-row         two rows that have a serial number are the same
--     none-declares row-declares   no row of the window has it; the one that has it
--     verdict-..      the verdict by these rows too
-- Assumes nothing.
use Prim.Native.Nat.{ℕ, ◌+◌, ◌-◌, ◌≤◌, ◌<◌}
use mathlib.Core.Bool.{Bool, true, false, cond, ◌||◌}
use mathlib.Core.Path.{◌≡◌, sym, ◌∙◌}
use mathlib.Core.List.{List}
use native.Mathlib.Omega.{arith}
use lib.Dec.{ltb}
use lib.ListN.{length}
use borrow.Author.Tests.{ltb-true, ltb-false}
use Rattle.metafile.specs.Fields.{same_serial}
use Rattle.metafile.specs.Reading.{rows_of}
use Rattle.metafile.specs.Append.{row_no}
use Rattle.metafile.specs.Calls.{chunk_of}
use Rattle.metafile.specs.Below.{any_below}
use Rattle.metafile.specs.Relations.{split_on, field_no, chunk_declares, row_declares, verdict_by}
use Rattle.laws.proofs.First.{test, untrue, and_both, or-true, or_left, or_right}
use Rattle.laws.proofs.SameSerial.{serial-sym}
use Rattle.laws.proofs.Below.{any-true, any-cases}
use Rattle.chunk_laws.proofs.Serials.{file-fresh}
use Rattle.directory.specs.Directory.{Sought}
use Rattle.walk.proofs.Serials.{with-only}
use Rattle.relation_line.specs.Form.{form_of}
use Rattle.relation_line.proofs.Forms.{form-relation, form-malformed, form-is}
use Rattle.relations_check.specs.Judged.{declared_below}
use Rattle.relations_check.specs.Window.{WindowOf}

-- ---- numbers

module _ (p : ℕ → Bool) (k n : ℕ) (r : Bool) (only : (j : ℕ) → j < n → p (k + j) ≡ true → r ≡ true) (one : r ≡ true → (j : ℕ) × (j < n) × (p (k + j) ≡ true)) where
  below_more : (any_below k p || r) ≡ any_below (k + n) p
  below_more =
      test (any_below (k + n) p)
      (λ e. any-cases p (k + n) e
      (λ i h q. test (ltb i k)
      (λ y. or_left (any_below k p) r (any-true p k i (ltb-true i k y) q))
      (λ y.
      let far : k ≤ i = ltb-false i k y in
      let at : k + (i - k) ≡ i = omega arith in
      or_right (any_below k p) r (only (i - k) (omega arith) (rw at q)))) ∙ sym e)
      (λ e. test (any_below k p || r)
      (λ q. or-true (any_below k p) r q
      (λ y. any-cases p k y (λ i h z. untrue (sym e ∙ any-true p (k + n) i (omega arith) z)))
      (λ y. let w = one y in untrue (sym e ∙ any-true p (k + n) (k + w.0) (omega (arith, w.1)) w.2)))
      (λ q. q ∙ sym e))

-- what is declared by the first rows is declared by more
pub below-kept : (file : List ℕ) (k n : ℕ) (fs : List (List ℕ)) → declared_below file k fs ≡ true → declared_below file (k + n) fs ≡ true
unfolding declared_below
below-kept file k n fs e = any-cases (row_declares file fs) k e (λ i h q. any-true (row_declares file fs) (k + n) i (omega arith) q)

-- ---- rows

module _ (file x : List ℕ) where
  one-row : (i k : ℕ) → i < length (rows_of file) → k < length (rows_of file)
      → same_serial (row_no (rows_of file) i).serial x ≡ true → same_serial (row_no (rows_of file) k).serial x ≡ true → i ≡ k
  one-row i k h l e q =
      sym (with-only x (rows_of file) i h (file-fresh file) (serial-sym _ x e)) ∙ with-only x (rows_of file) k l (file-fresh file) (serial-sym _ x q)

module _ (file d : List ℕ) (from n : ℕ) (w : WindowOf file d from n) (fs : List (List ℕ)) (r : ℕ) (s : Sought file d n (field_no fs 1) r) where
  -- a row of the window that has the child's serial number is that of an entry
  serial-of : (j : ℕ) → j < n → row_declares file fs (from + j) ≡ true → same_serial (row_no (rows_of file) (from + j)).serial (field_no fs 1) ≡ true
  unfolding row_declares
  serial-of j h e = (and_both (same_serial (row_no (rows_of file) (from + j)).serial (field_no fs 1)) _ e).0

  pub none-declares : r ≡ 0 → (declared_below file from fs || false) ≡ declared_below file (from + n) fs
  unfolding declared_below
  none-declares z =
      below_more (row_declares file fs) from n false
      (λ j h e. absurd (omega (arith, z, s.all j h (rw (w.serials j h) (serial-of j h e)))))
      (λ e. untrue e)

  -- the row that was found
  module _ (some : 0 < r) where
    below : r - 1 < n
    below = omega (arith, s.few)

    found-serial : same_serial (row_no (rows_of file) (from + (r - 1))).serial (field_no fs 1) ≡ true
    found-serial = rw (← w.serials (r - 1) below) (s.found some)

    found-declares : row_declares file fs (from + (r - 1)) ≡ chunk_declares fs (chunk_of file (from + (r - 1))) (row_no (rows_of file) (from + (r - 1))).dependencies
    unfolding row_declares
    found-declares = rw found-serial

    pub row-declares : (b : Bool) → b ≡ chunk_declares fs (chunk_of file (from + (r - 1))) (row_no (rows_of file) (from + (r - 1))).dependencies
        → (declared_below file from fs || b) ≡ declared_below file (from + n) fs
    unfolding declared_below
    row-declares b is =
        let own : b ≡ row_declares file fs (from + (r - 1)) = is ∙ sym found-declares in
        below_more (row_declares file fs) from n b
        (λ j h e.
        let same : from + j ≡ from + (r - 1) =
        one-row file (field_no fs 1) (from + j) (from + (r - 1)) (omega (arith, w.rows)) (omega (arith, w.rows, below)) (serial-of j h e) found-serial in
        own ∙ rw (← same) e)
        (λ e. (r - 1, below, sym own ∙ e))

-- ---- verdicts

module _ (before after : List (List ℕ) → Bool) (l : List ℕ) (more : before (split_on 9 l) ≡ true → after (split_on 9 l) ≡ true) (some : form_of l ≡ 0 → ⊥) where
  -- one that is declared or malformed stays so
  pub verdict-kept : (v : ℕ) → v ≡ verdict_by before l → (v ≡ 2 → ⊥) → v ≡ verdict_by after l
  verdict-kept v is other =
      form-is l
      (λ z. absurd (some z))
      (λ z.
      let old : v ≡ cond (before (split_on 9 l)) 1 2 = is ∙ form-relation before l z in
      let new : verdict_by after l ≡ cond (after (split_on 9 l)) 1 2 = form-relation after l z in
      test (before (split_on 9 l))
      (λ q. rw q at old ∙ sym (rw (more q) at new))
      (λ q. absurd (other (rw q at old))))
      (λ z. is ∙ form-malformed before l z ∙ sym (form-malformed after l z))

  -- one that is undeclared so far
  module _ (v : ℕ) (is : v ≡ verdict_by before l) (two : v ≡ 2) where
    pub verdict-form : form_of l ≡ 2
    verdict-form =
        form-is l
        (λ z. absurd (some z))
        (λ z. z)
        (λ z. absurd (omega (arith, two, is ∙ form-malformed before l z)))

    verdict-not : before (split_on 9 l) ≡ false
    verdict-not =
        test (before (split_on 9 l))
        (λ q. let old : v ≡ cond (before (split_on 9 l)) 1 2 = is ∙ form-relation before l verdict-form in absurd (omega (arith, two, rw q at old)))
        (λ q. q)

    pub verdict-now : (b : Bool) → (before (split_on 9 l) || b) ≡ after (split_on 9 l) → cond b 1 2 ≡ verdict_by after l
    verdict-now b e =
        let now : b ≡ after (split_on 9 l) = rw verdict-not at e in
        rw now (sym (form-relation after l verdict-form))
