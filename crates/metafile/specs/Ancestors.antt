-- All that a chunk rests on: "every row that can be reached from row k by dependencies, each listed one time, in file order, k
-- left out, with the count of those dependencies, of k and of the listed rows, that name no row". The file is judged as by
-- parent. Assumes nothing.
use Rattle.std.specs.Prelude.{ℕ, Bool, cond, not, ◌&&◌, List, [], ◌∷◌, leb, ltb, eqb, length}
use Rattle.metafile.specs.Below.{any_below, join_below, sum_below}
use Rattle.metafile.specs.Closure.{by_way, within, circular_from}
use Rattle.metafile.specs.Reading.{rows_of}
use Rattle.metafile.specs.Answers.{result, flag, Test, refuse, over_limit, Outcome, placed, unless_refused}
use Rattle.metafile.specs.Append.{row_no}
use Rattle.metafile.specs.Calls.{parent_row}

-- "by dependencies": row b is the parent that one of row a's dependencies names
unfoldable pub depends_on : List ℕ → ℕ → ℕ → Bool
depends_on file a b =
    ltb b (length (rows_of file))
    && any_below (row_no (rows_of file) a).dependencies (λ (j : ℕ). eqb (parent_row file a j) b)

-- "can be reached": in one or more steps
unfoldable pub reaches : List ℕ → ℕ → ℕ → Bool
reaches file a b = by_way (depends_on file) (length (rows_of file)) a b

-- "k left out"
unfoldable pub is_ancestor : List ℕ → ℕ → ℕ → Bool
is_ancestor file k i = not (eqb i k) && reaches file k i

-- "each listed one time, in file order"
unfoldable pub ancestor_rows : List ℕ → ℕ → List ℕ
ancestor_rows file k =
    join_below (length (rows_of file)) (λ (i : ℕ). cond (is_ancestor file k i) (i ∷ []) [])

-- "of k and of the listed rows"
unfoldable pub rests_on : List ℕ → ℕ → ℕ → Bool
rests_on file k i = within (depends_on file) (length (rows_of file)) k i

-- how many dependencies of a row "name no row"
unfoldable pub missing_of : List ℕ → ℕ → ℕ
missing_of file i =
    sum_below (row_no (rows_of file) i).dependencies (λ (j : ℕ). flag (leb (length (rows_of file)) (parent_row file i j)))

unfoldable pub missing : List ℕ → ℕ → ℕ
missing file k =
    sum_below (length (rows_of file)) (λ (i : ℕ). cond (rests_on file k i) (missing_of file i) 0)

-- "If a chain from k comes back to any chunk on it"
unfoldable pub circular : List ℕ → ℕ → Bool
circular file k = circular_from (depends_on file) (length (rows_of file)) k

-- "the number is 23; more than 64 rows in the reading gives 24, after 13 and before 23"
unfoldable pub ancestors_tests : List ℕ → ℕ → List ℕ → List Test
ancestors_tests file k list =
    refuse 11 (over_limit (length file ∷ []))
    ∷ refuse 13 (leb (length (rows_of file)) k)
    ∷ refuse 24 (ltb 64 (length (rows_of file)))
    ∷ refuse 23 (circular file k)
    ∷ refuse 18 (ltb (length list) (length (ancestor_rows file k)))
    ∷ []

-- what ancestors answers and leaves in the lent list of row numbers
unfoldable pub ancestors : List ℕ → ℕ → List ℕ → Outcome
ancestors file k list =
    unless_refused (ancestors_tests file k list) list
    (record {
      answer = result (length (ancestor_rows file k) ∷ missing file k ∷ []);
      buffer = placed 0 (ancestor_rows file k) list;
    })
