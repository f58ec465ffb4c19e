-- The answers of gather, by its tests ("Parent, contents and gather test 11 and then by rising number").
--     from-14 from-18 from-joined        behind the row: a number only and nothing written, or the data joined
--     refused-11 refused-row plain-14 long-14   the refusals up to there
--     gather-is                          else it is what lies behind the row
-- Assumes nothing.
use Prim.Native.Nat.{ℕ, ◌≤◌, ◌<◌}
use mathlib.Core.Bool.{Bool, true, false, not, ◌||◌}
use mathlib.Core.Path.{◌≡◌, sym, ap, ◌∙◌}
use mathlib.Core.List.{List, [], ◌∷◌}
use native.Mathlib.Omega.{arith}
use lib.Dec.{ltb}
use lib.ListN.{length}
use borrow.Author.Tests.{lt-ltb, le-ltb}
use Rattle.std.specs.declared.result.Result.TheVariants.{Ok, Err}
use Rattle.metafile.specs.declared.refusal.Refusal.{Refusal}
use Rattle.metafile.specs.declared.refusal.Refusal.TheVariants.{OverLimit, NoDependency, NoRoom}
use Rattle.metafile.specs.Refusals.{number_of}
use Rattle.metafile.specs.Bytes.{member}
use Rattle.metafile.specs.Fields.{padded}
use Rattle.metafile.specs.Multi.{declared_ids, multi_joined}
use Rattle.metafile.specs.Reading.{rows_of}
use Rattle.metafile.specs.Answers.{count_answer, Test, refuse, first_refusal, over_limit, Outcome, outcome, placed, unless_refused}
use Rattle.metafile.specs.Append.{row_no}
use Rattle.metafile.specs.Calls.{multi_of, gathered, gather_tests, gather}
use Rattle.laws.proofs.First.{untrue, choose-go, or_left, or_right}
use Rattle.laws.proofs.Accepted.{refusal-first, refusal-next, tests-end}
use Rattle.walk.specs.declared.cursor.Cursor.{Cursor}
use Rattle.walk.specs.Cursor.{cursor_none, named_of}
use Rattle.walk.proofs.Named.{within_first, tests-on, Named, named, refused_by}
use Rattle.gather.specs.Outcome.{gather_from}
use Rattle.gather.proofs.Contents.{undeclared}
use Rattle.laws.proofs.Outcomes.{outcome-refused}

-- ---- a refusal leaves the buffer as it was

same_tests : (ts us : List Test) (buffer : List ℕ) (done : Outcome) → first_refusal ts ≡ first_refusal us → unless_refused ts buffer done ≡ unless_refused us buffer done
unfolding unless_refused
same_tests ts us buffer done e = rw e

-- the number of what is refused isn't 0
number-some : (file : List ℕ) (k : ℕ) (r : Refusal) → cursor_none (number_of r) ≡ named_of file k → number_of r ≡ 0 → ⊥
unfolding cursor_none
number-some file k r e z = untrue (named file k (cursor_none (number_of r)) e z).goes

-- ---- behind the row

module _ (r id buffer : List ℕ) where
  pub from-14 : member id (declared_ids r) ≡ false → outcome (count_answer (Err NoDependency)) buffer ≡ gather_from r id buffer
  unfolding gather_from count_answer
  from-14 e = outcome-refused _ buffer _ 14 (sym (refusal-first 14 _ _ (ap not e))) (λ z. omega arith)

  module _ (d : member id (declared_ids r) ≡ true) where
    pub from-18 : length buffer < length (multi_joined id r) → outcome (count_answer (Err NoRoom)) buffer ≡ gather_from r id buffer
    unfolding gather_from count_answer
    from-18 h = outcome-refused _ buffer _ 18 (sym (refusal-next 14 _ _ (ap not d) ∙ refusal-first 18 _ [] (lt-ltb _ _ h))) (λ z. omega arith)

    pub from-joined : (n : ℕ) (last : List ℕ) → n ≡ length (multi_joined id r) → n ≤ length buffer → last ≡ placed 0 (multi_joined id r) buffer
        → outcome (count_answer (Ok n)) last ≡ gather_from r id buffer
    unfolding gather_from count_answer unless_refused
    from-joined n last e h p =
        let fits : length (multi_joined id r) ≤ length buffer = omega arith in
        rw (e, p) (sym (choose-go _ _ _ (refusal-next 14 _ _ (ap not d) ∙ refusal-next 18 _ [] (le-ltb _ _ fits) ∙ tests-end)))

-- ---- gather

module _ (file : List ℕ) (k : ℕ) (id buffer : List ℕ) where
  pub refused-11 : over_limit (length file ∷ length id ∷ length buffer ∷ []) ≡ true → outcome (count_answer (Err OverLimit)) buffer ≡ gather file k id buffer
  unfolding gather gather_tests count_answer
  refused-11 e = outcome-refused _ buffer _ 11 (sym (refusal-first 11 _ _ e)) (λ z. omega arith)

  module _ (s : over_limit (length file ∷ length id ∷ length buffer ∷ []) ≡ false) where
    -- 13: the file is not over the limit
    pub refused-row : (r : Refusal) → cursor_none (number_of r) ≡ named_of file k → outcome (count_answer (Err r)) buffer ≡ gather file k id buffer
    unfolding gather gather_tests count_answer
    refused-row r e =
        let same = s ∙ sym (within_first (length file) _ s) in
        outcome-refused _ buffer _ (number_of r) (sym (rw same (refused_by file k r e _))) (number-some file k r e)

    module _ (f : Cursor) (w : Named file k f) where
      refused-14 : (not (row_no (rows_of file) k).multichunk || not (member (padded 10 id) (declared_ids (multi_of file k)))) ≡ true
          → outcome (count_answer (Err NoDependency)) buffer ≡ gather file k id buffer
      unfolding gather gather_tests count_answer
      refused-14 e = outcome-refused _ buffer _ 14 (sym (tests-on _ _ k _ s w.in_rows ∙ refusal-first 14 _ _ e)) (λ z. omega arith)

      pub plain-14 : f.layout.multichunk ≡ false → outcome (count_answer (Err NoDependency)) buffer ≡ gather file k id buffer
      plain-14 e = refused-14 (or_left _ _ (ap not (sym w.multichunk-is ∙ e)))

      pub long-14 : 10 < length id → outcome (count_answer (Err NoDependency)) buffer ≡ gather file k id buffer
      long-14 h = refused-14 (or_right (not (row_no (rows_of file) k).multichunk) _ (ap not (undeclared id (multi_of file k) h)))

      pub gather-is : f.layout.multichunk ≡ true → (r short : List ℕ) → r ≡ multi_of file k → short ≡ padded 10 id
          → gather_from r short buffer ≡ gather file k id buffer
      unfolding gather_from gather gather_tests gathered
      gather-is e r short p q =
          let m : Bool = member (padded 10 id) (declared_ids (multi_of file k)) in
          let room : Test = refuse 18 (ltb (length buffer) (length (multi_joined (padded 10 id) (multi_of file k)))) in
          rw (p, q)
          (same_tests _ _ buffer _
          (sym (tests-on _ _ k _ s w.in_rows ∙ ap (λ (b : Bool). first_refusal (refuse 14 (not b || not m) ∷ room ∷ [])) (sym w.multichunk-is ∙ e))))
