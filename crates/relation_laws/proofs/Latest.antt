-- Which of several relation chunks holds: "the latest Chunk_Writing_Date, and of equal dates the later row".
--     Holds            row k holds among the first n rows: a relations row, none of a later day, none of the same day behind it
--     Chosen holds-is  the choice: the row that holds, or the number of rows where no row is a relations row
--     latest-unique    only one row holds
--     row-dated        every row's writing date is a date; row-day: its day is that date's number; row-day-bounds: from 1 to 3652059
--     latest-is        the check of the row chosen, and the row answered with it
--     latest-checks    where there is a relations row, 13 and 19 are not among the tests
--     none-13          where there is none, 13
-- Assumes nothing.
use Prim.Native.Nat.{ℕ, zero, suc, ◌^◌, ◌≤◌, ◌<◌}
use mathlib.Core.Bool.{true, false, not}
use mathlib.Core.Path.{◌≡◌, refl, sym, ◌∙◌}
use mathlib.Core.List.{List, [], ◌∷◌, ◌++◌}
use native.Mathlib.Omega.{arith}
use lib.Dec.{leb, ltb, eqb}
use lib.ListN.{length}
use borrow.Author.Tests.{leb-true, leb-false, lt-leb, le-leb, ltb-true, ltb-false, eqb-true, eqb-false}
use Rattle.metafile.specs.Bytes.{same, choose}
use Rattle.metafile.specs.Fields.{is_date}
use Rattle.metafile.specs.Days.{day_number}
use Rattle.metafile.specs.Lines.{first_of}
use Rattle.metafile.specs.Header.{is_llc, mark_of}
use Rattle.metafile.specs.Reading.{rows_of}
use Rattle.metafile.specs.Answers.{result, refused, Test, refuse, first_refusal, over_limit, Outcome, outcome, placed, unless_refused}
use Rattle.metafile.specs.Calls.{chunk_of}
use Rattle.metafile.specs.Relations.{is_relations, heading, verdicts, contents_lines, relations_check_tests, relations_check, writing_date_of, writing_day, Latest, latest_below, relations_row, with_row, relations_check_latest}
use Rattle.metafile.proofs.DayNumbers.{number-day}
use Rattle.laws.proofs.First.{test, untrue}
use Rattle.laws.proofs.Dates.{day-is}
use Rattle.laws.proofs.Accepted.{refusal-first, refusal-next, limit-under}
use Rattle.laws.proofs.Outcomes.{outcome-refused}
use Rattle.chunk_laws.proofs.Places.{writing-dated}
use Rattle.chunk_laws.proofs.Dependencies.{chunk_whole}

-- ---- among the first n rows

pub record Holds (file : List ℕ) (n k : ℕ) : Type 0 where
  pub inside : k < n
  pub relations : is_relations (chunk_of file k) ≡ true
  pub latest : (j : ℕ) → j < n → is_relations (chunk_of file j) ≡ true → writing_day file j ≤ writing_day file k
  pub last : (j : ℕ) → j < n → is_relations (chunk_of file j) ≡ true → k < j → writing_day file j < writing_day file k

-- none of the first n rows is a relations row
abbrev pub NoneBelow : List ℕ → ℕ → Type 0
NoneBelow file n = (j : ℕ) → j < n → is_relations (chunk_of file j) ≡ false

data Choice (file : List ℕ) (n : ℕ) (l : Latest) : Type 0 where
  one : Holds file n l.row → l.day ≡ writing_day file l.row → Choice file n l
  none : NoneBelow file n → l.row ≡ length (rows_of file) → l.day ≡ 0 → Choice file n l

-- below suc n: below n, or n
pub below_suc : {A : Type 0} (n j : ℕ) → j < suc n → (j < n → A) → (j ≡ n → A) → A
below_suc n j h f g = test (eqb j n) (λ q. g (eqb-true j n q)) (λ q. f (omega (arith, eqb-false j n q)))

module _ (file : List ℕ) (n : ℕ) (l : Latest) where
  -- no relations row has a later day than the choice so far
  no-later : Choice file n l → (j : ℕ) → j < n → is_relations (chunk_of file j) ≡ true → writing_day file j ≤ l.day
  no-later (one h d) j b r = rw d (h.latest j b r)
  no-later (none h e z) j b r = untrue (sym (h j b) ∙ r)

  -- row n is taken
  taken : is_relations (chunk_of file n) ≡ true → l.day ≤ writing_day file n → Choice file n l
      → Choice file (suc n) (record { row = n; day = writing_day file n })
  taken r d c =
      one
      (record {
        inside = omega arith;
        relations = r;
        latest = λ j b q. below_suc n j b (λ b'. omega (arith, no-later c j b' q)) (λ e. rw e (omega arith));
        last = λ j b q o. absurd (omega arith);
      })
      refl

  -- row n is of another sub-format
  passed : is_relations (chunk_of file n) ≡ false → Choice file n l → Choice file (suc n) l
  passed r (one h d) =
      one
      (record {
        inside = omega (arith, h.inside);
        relations = h.relations;
        latest = λ j b q. below_suc n j b (λ b'. h.latest j b' q) (λ e. untrue (sym r ∙ rw e at q));
        last = λ j b q o. below_suc n j b (λ b'. h.last j b' q o) (λ e. untrue (sym r ∙ rw e at q));
      })
      d
  passed r (none h e z) = none (λ j b. below_suc n j b (λ b'. h j b') (λ q. rw q r)) e z

  -- row n is of an earlier day
  earlier : writing_day file n < l.day → Choice file n l → Choice file (suc n) l
  earlier o (one h d) =
      one
      (record {
        inside = omega (arith, h.inside);
        relations = h.relations;
        latest = λ j b q. below_suc n j b (λ b'. h.latest j b' q) (λ e. rw e (omega arith));
        last = λ j b q p. below_suc n j b (λ b'. h.last j b' q p) (λ e. rw e (omega arith));
      })
      d
  earlier o (none h e z) = absurd (omega arith)

choice : (file : List ℕ) (n : ℕ) → Choice file n (latest_below file n)
unfolding latest_below
choice file zero = none (λ j b. absurd (omega arith)) refl refl
choice file (suc n) =
    let l : Latest = latest_below file n in
    test (is_relations (chunk_of file n))
    (λ r.
    test (leb l.day (writing_day file n))
    (λ q. rw (r, q) (taken file n l r (leb-true _ _ q) (choice file n)))
    (λ q. rw (r, q) (earlier file n l (leb-false _ _ q) (choice file n))))
    (λ r. rw r (passed file n l r (choice file n)))

-- ---- among all rows

-- a row that holds, or the number of rows and no relations row
pub record Chosen (file : List ℕ) (k : ℕ) : Type 0 where
  pub held : k < length (rows_of file) → Holds file (length (rows_of file)) k
  pub count : length (rows_of file) ≤ k → k ≡ length (rows_of file)
  pub none-there : length (rows_of file) ≤ k → NoneBelow file (length (rows_of file))

chosen : (file : List ℕ) (l : Latest) → Choice file (length (rows_of file)) l → Chosen file l.row
chosen file l (one h d) =
    record { held = λ b. h; count = λ b. absurd (omega (arith, h.inside)); none-there = λ b. absurd (omega (arith, h.inside)) }
chosen file l (none h e z) = record { held = λ b. absurd (omega arith); count = λ b. e; none-there = λ b. h }

pub holds-is : (file : List ℕ) → Chosen file (relations_row file)
unfolding relations_row
holds-is file = chosen file _ (choice file (length (rows_of file)))

-- there is a relations row, or there is none
row-cases : {A : Type 0} (file : List ℕ) → (Holds file (length (rows_of file)) (relations_row file) → A)
    → (relations_row file ≡ length (rows_of file) → NoneBelow file (length (rows_of file)) → A) → A
row-cases file f g =
    let c = holds-is file in
    test (leb (length (rows_of file)) (relations_row file))
    (λ q. let b = leb-true _ _ q in g (c.count b) (c.none-there b))
    (λ q. f (c.held (leb-false _ _ q)))

pub latest-unique : (file : List ℕ) (k : ℕ) → Holds file (length (rows_of file)) k → relations_row file ≡ k
latest-unique file k h =
    row-cases file
    (λ c.
    let r : ℕ = relations_row file in
    let behind : k < r → ⊥ = λ o. omega (arith, h.last r c.inside c.relations o, c.latest k h.inside h.relations) in
    let before : r < k → ⊥ = λ o. omega (arith, c.last k h.inside h.relations o, h.latest r c.inside c.relations) in
    test (eqb r k) (λ q. eqb-true r k q)
    (λ q. test (ltb k r) (λ o. absurd (behind (ltb-true k r o))) (λ o. absurd (before (omega (arith, eqb-false r k q, ltb-false k r o))))))
    (λ e c. untrue (sym (c k h.inside) ∙ h.relations))

-- ---- the date of a row

module _ (file : List ℕ) (k : ℕ) (h : k < length (rows_of file)) where
  pub row-dated : is_date (writing_date_of (mark_of file) (chunk_of file k)) ≡ true
  row-dated = writing-dated (is_llc file) (mark_of file) (chunk_of file k) (chunk_whole file k h)

  pub row-day : writing_day file k ≡ day_number (writing_date_of (mark_of file) (chunk_of file k))
  unfolding writing_day
  row-day = day-is _ row-dated

  pub row-day-bounds : (1 ≤ writing_day file k) × (writing_day file k ≤ 3652059)
  row-day-bounds = rw row-day (number-day _ row-dated)

-- ---- the check

-- the row is added to a result
row-added : (n k : ℕ) (vs list rest : List ℕ)
    → (let done : Outcome = choose n (outcome (result vs) rest) (λ x. outcome (refused x) list) in
    outcome (with_row k done.answer) done.buffer)
    ≡ choose n (outcome (result (vs ++ k ∷ [])) rest) (λ x. outcome (refused x) list)
unfolding choose with_row
row-added zero k vs list rest = refl
row-added (suc n) k vs list rest = refl

module _ (file list : List ℕ) where
  -- what an accepted check gives
  unfoldable pub checked_latest : Outcome
  checked_latest =
      outcome (result (length (verdicts file (contents_lines file (relations_row file))) ∷ relations_row file ∷ []))
      (placed 0 (verdicts file (contents_lines file (relations_row file))) list)

  pub latest-is : relations_check_latest file list ≡ unless_refused (relations_check_tests file (relations_row file) list) list checked_latest
  unfolding relations_check_latest relations_check unless_refused checked_latest
  latest-is = row-added (first_refusal (relations_check_tests file (relations_row file) list)) (relations_row file) _ list _

  -- without 13 and 19
  unfoldable pub tests_of_chosen : List Test
  tests_of_chosen =
      refuse 11 (over_limit (length file ∷ []))
      ∷ refuse 20 (not (same (first_of (contents_lines file (relations_row file))) heading))
      ∷ refuse 18 (ltb (length list) (length (verdicts file (contents_lines file (relations_row file)))))
      ∷ []

  pub latest-checks : relations_row file < length (rows_of file) → relations_check_latest file list ≡ unless_refused tests_of_chosen list checked_latest
  unfolding relations_check_tests tests_of_chosen unless_refused first_refusal refuse
  latest-checks h = latest-is ∙ rw (lt-leb _ _ h, ((holds-is file).held h).relations)

  pub none-13 : length file ≤ 2 ^ 30 → NoneBelow file (length (rows_of file)) → relations_check_latest file list ≡ outcome (refused 13) list
  unfolding relations_check_tests
  none-13 small c =
      let e : relations_row file ≡ length (rows_of file) =
      row-cases file (λ h. untrue (sym (c _ h.inside) ∙ h.relations)) (λ q c'. q) in
      let first : first_refusal (relations_check_tests file (relations_row file) list) ≡ 13 =
      refusal-next 11 _ _ (limit-under (length file) small)
      ∙ refusal-first 13 _ _ (le-leb (length (rows_of file)) (relations_row file) (omega arith)) in
      latest-is ∙ sym (outcome-refused _ list checked_latest 13 (sym first) (λ z. omega arith))
