-- The call parent, where no test refuses ("Parent of row k, dependency j, both from 0").
--     Asked asked-parent parent-asked   the row and the dependency are there: the call answers a result
--     answer-found answer-missing       the two answers; answer-cases: by cases
-- Assumes nothing.
use Prim.Native.Nat.{ℕ, zero, suc, ◌^◌, ◌≤◌, ◌<◌}
use mathlib.Core.Bool.{cond}
use mathlib.Core.Path.{◌≡◌, refl, ◌∙◌}
use mathlib.Core.List.{List, [], ◌∷◌}
use native.Mathlib.Omega.{arith}
use lib.Dec.{ltb}
use lib.ListN.{length}
use borrow.Author.Tests.{leb-false, lt-leb, ltb-true, ltb-false, lt-ltb, le-ltb}
use Rattle.metafile.specs.Bytes.{choose}
use Rattle.metafile.specs.Reading.{rows_of}
use Rattle.metafile.specs.Answers.{Answer, result, refused, flag, first_refusal, limit, over_limit}
use Rattle.metafile.specs.Append.{row_no}
use Rattle.metafile.specs.Calls.{parent_row, agree, parent_tests, parent}
use Rattle.laws.proofs.First.{test, choose-go}
use Rattle.laws.proofs.Accepted.{refusal-none, refusal-next}

-- found with its row and agreement, or missing
unfoldable pub answer_to : List ℕ → ℕ → ℕ → Answer
answer_to file k j =
    cond (ltb (parent_row file k j) (length (rows_of file))) (result (parent_row file k j ∷ flag (agree file k j) ∷ [])) (result [])

-- no test refuses
pub record Asked (file : List ℕ) (k j : ℕ) : Type 0 where
  pub row-there : k < length (rows_of file)
  pub dependency-there : j < (row_no (rows_of file) k).dependencies

pub parent-asked : (file : List ℕ) (k j : ℕ) → length file ≤ 2 ^ 30 → Asked file k j → parent file k j ≡ answer_to file k j
unfolding parent answer_to parent_tests over_limit limit
parent-asked file k j small q =
    choose-go _ _ _
    (refusal-next 11 _ _ (rw (le-ltb (2 ^ 30) (length file) small))
    ∙ refusal-next 13 _ _ (lt-leb _ _ q.row-there)
    ∙ refusal-next 14 _ _ (lt-leb _ _ q.dependency-there)
    ∙ (unfold first_refusal in refl))

not-refused : (n : ℕ) (go : Answer) (vs : List ℕ) → choose n go (λ x. refused x) ≡ result vs → (n ≡ 0) × (go ≡ result vs)
unfolding choose
not-refused zero go vs e = (refl, e)
not-refused (suc n) go vs e = let z : ◌≡◌ {A = ℕ} 0 1 = cc in absurd (omega arith)

pub asked-parent : (file : List ℕ) (k j : ℕ) (vs : List ℕ) → parent file k j ≡ result vs → Asked file k j × (answer_to file k j ≡ result vs)
unfolding parent answer_to parent_tests
asked-parent file k j vs e =
    let h = not-refused (first_refusal (parent_tests file k j)) _ vs e in
    let h11 = refusal-none 10 _ _ h.0 in
    let h13 = refusal-none 12 _ _ h11.1 in
    let h14 = refusal-none 13 _ _ h13.1 in
    (record { row-there = leb-false _ _ h13.0; dependency-there = leb-false _ _ h14.0 }, h.1)

-- the two answers
pub answer-found : (file : List ℕ) (k j : ℕ) → parent_row file k j < length (rows_of file) → answer_to file k j ≡ result (parent_row file k j ∷ flag (agree file k j) ∷ [])
unfolding answer_to
answer-found file k j h = rw (lt-ltb _ _ h)

pub answer-missing : (file : List ℕ) (k j : ℕ) → length (rows_of file) ≤ parent_row file k j → answer_to file k j ≡ result []
unfolding answer_to
answer-missing file k j h = rw (le-ltb _ _ h)

pub answer-cases : {A : Type 0} (file : List ℕ) (k j : ℕ) → (parent_row file k j < length (rows_of file) → A) → (length (rows_of file) ≤ parent_row file k j → A) → A
answer-cases file k j f g = test (ltb (parent_row file k j) (length (rows_of file))) (λ e. f (ltb-true _ _ e)) (λ e. g (ltb-false _ _ e))

pub none≢some : {A : Type 0} (x : ℕ) (xs : List ℕ) → result [] ≡ result (x ∷ xs) → A
none≢some x xs e = let z : ◌≡◌ {A = ℕ} 0 1 = cc in absurd (omega arith)
