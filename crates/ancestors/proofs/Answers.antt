-- The answers of ancestors, by its tests ("more than 64 rows in the reading gives 24, after 13 and before 23").
--     refused-11 refused-13 refused-24 refused-23 refused-18   a number only, and the list as it was
--     small-counts                                             counts of missing parents whose sum is a number of the machine
--     answered                                                 the rows listed, and how many dependencies name no row
-- Assumes nothing.
use Rattle.std.proofs.Common.{ℕ, ◌≤◌, ◌<◌, ◌≡◌, Bool, true, false, cond, not, ◌&&◌, ◌||◌, List, [], ◌∷◌, length, take, get_or-take, eqb, refl, sym, ap, ◌∙◌, arith, lt-ltb, le-ltb, le-leb}
use borrow.Author.Tests.{lt-leb}
use Rattle.std.specs.declared.result.Result.TheVariants.{Ok, Err}
use Rattle.metafile.specs.declared.refusal.Refusal.TheVariants.{OverLimit, NoRow, RowsOver64, Circle, NoRoom}
use Rattle.metafile.specs.Reading.{rows_of}
use Rattle.metafile.specs.Answers.{ancestors_answer, outcome, over_limit, placed}
use Rattle.metafile.specs.Below.{join_below, sum_below}
use Rattle.metafile.specs.Closure.{by_way, within, circular_from}
use Rattle.metafile.specs.Ancestors.{depends_on, reaches, is_ancestor, ancestor_rows, rests_on, missing_of, missing, circular, ancestors_tests, ancestors}
use Rattle.laws.proofs.Below.{sum_same, join-same}
use Rattle.laws.proofs.Closure.{within_same, circular-same}
use Rattle.laws.proofs.Accepted.{refusal-first, refusal-next, tests-end}
use Rattle.laws.proofs.Outcomes.{outcome-refused, outcome-done}
use Rattle.ancestor_laws.proofs.Listed.{missing_of-few}
use Rattle.graph.specs.declared.Mark.{Mark}
use Rattle.graph.specs.declared.Mark.TheVariants.{Unvisited}
use Rattle.graph.specs.Graph.{goes, Reached as Marked}
use Rattle.ancestors.specs.declared.rows.NotedRow.{NotedRow}
use Rattle.ancestors.specs.Noted.{AllNoted}
use Rattle.ancestors.specs.Steps.{Tabled, Counted}
use Rattle.ancestors.specs.Lists.{is_marked, is_listed, listed_rows, marked_sum, Small}

-- ---- counts of missing parents

pub small-counts : {file : List ℕ} {rows after : List NotedRow} → AllNoted file rows → length after ≡ length rows → length file ≤ 1073741824
    → Counted file after → (n : ℕ) → n ≡ length rows → Small n after
small-counts {file} w long small c n is =
    record {
      few = omega (arith, w.few);
      small = λ i h.
          let here = w.each i (omega arith) in
          omega (arith, c.each i (omega arith), missing_of-few file i, here.count-is, here.inside);
    }

-- ---- the answers

other-only : (a b : Bool) → (not a && (a || b)) ≡ (not a && b)
other-only true b = refl
other-only false b = refl

module _ (file : List ℕ) (row : ℕ) (list : List ℕ) where
  pub refused-11 : over_limit (length file ∷ []) ≡ true → outcome (ancestors_answer (Err OverLimit)) list ≡ ancestors file row list
  unfolding ancestors ancestors_tests ancestors_answer
  refused-11 h = outcome-refused _ list _ 11 (sym (refusal-first 11 _ _ h)) (λ z. omega arith)

  module _ (small : over_limit (length file ∷ []) ≡ false) (n : ℕ) (rows : n ≡ length (rows_of file)) where
    pub refused-13 : n ≤ row → outcome (ancestors_answer (Err NoRow)) list ≡ ancestors file row list
    unfolding ancestors ancestors_tests ancestors_answer
    refused-13 h =
        outcome-refused _ list _ 13
        (sym (refusal-next 11 _ _ small ∙ refusal-first 13 _ _ (le-leb (length (rows_of file)) row (omega arith))))
        (λ z. omega arith)

    module _ (there : row < n) where
      pub refused-24 : 64 < n → outcome (ancestors_answer (Err RowsOver64)) list ≡ ancestors file row list
      unfolding ancestors ancestors_tests ancestors_answer
      refused-24 h =
          outcome-refused _ list _ 24
          (sym (refusal-next 11 _ _ small ∙ refusal-next 13 _ _ (lt-leb (length (rows_of file)) row (omega arith)) ∙ refusal-first 24 _ _ (lt-ltb 64 (length (rows_of file)) (omega arith))))
          (λ z. omega arith)

      module _ (few : n ≤ 64) (t : List ℕ) (w : Tabled file n n t) where
        circular-is : circular_from (goes t) n row ≡ circular file row
        unfolding circular
        circular-is =
            circular-same (goes t) (depends_on file) n w.steps row there ∙ ap (λ (k : ℕ). circular_from (depends_on file) k row) rows

        pub refused-23 : circular_from (goes t) n row ≡ true → outcome (ancestors_answer (Err Circle)) list ≡ ancestors file row list
        unfolding ancestors ancestors_tests ancestors_answer
        refused-23 e =
            outcome-refused _ list _ 23
            (sym (refusal-next 11 _ _ small
            ∙ refusal-next 13 _ _ (lt-leb (length (rows_of file)) row (omega arith))
            ∙ refusal-next 24 _ _ (le-ltb 64 (length (rows_of file)) (omega arith))
            ∙ refusal-first 23 _ _ (sym circular-is ∙ e)))
            (λ z. omega arith)

        module _ (all : List Mark) (r : Marked t n row all) (marks : List Mark) (first : marks ≡ take n all) (long : length marks ≡ n) where
          marked-is : (i : ℕ) → i < n → is_marked marks i ≡ rests_on file row i
          unfolding is_marked rests_on
          marked-is i h =
              rw (first, get_or-take n all i Unvisited h)
              (r.marked i h
              ∙ within_same (goes t) (depends_on file) n w.steps row i there h
              ∙ ap (λ (k : ℕ). within (depends_on file) k row i) rows)

          listed-one : (i : ℕ) → i < n → is_listed marks row i ≡ is_ancestor file row i
          unfolding is_listed is_ancestor rests_on within reaches
          listed-one i h =
              ap (λ (b : Bool). not (eqb i row) && b) (marked-is i h)
              ∙ other-only (eqb i row) (by_way (depends_on file) (length (rows_of file)) row i)

          listed-is : listed_rows marks row (length marks) ≡ ancestor_rows file row
          unfolding listed_rows ancestor_rows
          listed-is =
              rw long
              (join-same n _ (λ (i : ℕ). cond (is_ancestor file row i) (i ∷ []) []) (λ i h. ap (λ (b : Bool). cond b (i ∷ []) []) (listed-one i h))
              ∙ ap (λ (k : ℕ). join_below k (λ (i : ℕ). cond (is_ancestor file row i) (i ∷ []) [])) rows)

          passed : circular file row ≡ false
          passed = sym circular-is ∙ r.acyclic

          module _ (count : ℕ) (is : count ≡ length (listed_rows marks row (length marks))) where
            pub refused-18 : length list < count → outcome (ancestors_answer (Err NoRoom)) list ≡ ancestors file row list
            unfolding ancestors ancestors_tests ancestors_answer
            refused-18 h =
                let short : length list < length (ancestor_rows file row) = omega (arith, ap length listed-is) in
                outcome-refused _ list _ 18
                (sym (refusal-next 11 _ _ small
                ∙ refusal-next 13 _ _ (lt-leb (length (rows_of file)) row (omega arith))
                ∙ refusal-next 24 _ _ (le-ltb 64 (length (rows_of file)) (omega arith))
                ∙ refusal-next 23 _ _ passed
                ∙ refusal-first 18 _ _ (lt-ltb _ _ short)))
                (λ z. omega arith)

            module _ (counts : List NotedRow) (c : Counted file counts) (many : length counts ≡ n) where
              missing-is : marked_sum marks counts (length marks) ≡ missing file row
              unfolding marked_sum missing
              missing-is =
                  rw long
                  (sum_same n _ (λ (i : ℕ). cond (rests_on file row i) (missing_of file i) 0) (λ i h. rw (marked-is i h, c.each i (omega arith)) refl)
                  ∙ ap (λ (k : ℕ). sum_below k (λ (i : ℕ). cond (rests_on file row i) (missing_of file i) 0)) rows)

              pub answered : count ≤ length list → (after : List ℕ) → after ≡ placed 0 (listed_rows marks row (length marks)) list
                  → (sum : ℕ) → sum ≡ marked_sum marks counts (length marks)
                  → outcome (ancestors_answer (Ok (record { count = count; missing = sum }))) after ≡ ancestors file row list
              unfolding ancestors ancestors_tests ancestors_answer
              answered h after put sum total =
                  let long : count ≡ length (ancestor_rows file row) = is ∙ ap length listed-is in
                  let room : length (ancestor_rows file row) ≤ length list = omega arith in
                  rw (long, put, total, missing-is, listed-is)
                  (outcome-done _ list _
                  (refusal-next 11 _ _ small
                  ∙ refusal-next 13 _ _ (lt-leb (length (rows_of file)) row (omega arith))
                  ∙ refusal-next 24 _ _ (le-ltb 64 (length (rows_of file)) (omega arith))
                  ∙ refusal-next 23 _ _ passed
                  ∙ refusal-next 18 _ _ (le-ltb _ _ room)
                  ∙ tests-end))
