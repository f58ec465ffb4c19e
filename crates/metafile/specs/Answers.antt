-- What the calls answer, by this paper's number and values, and refusals by tests in their order. Assumes nothing.
use Rattle.std.specs.Prelude.{ℕ, ◌+◌, ◌^◌, Bool, false, cond, ◌||◌, List, [], ◌∷◌, ◌++◌, ltb, length, take, drop}
use Rattle.std.specs.declared.option.Option.{Option}
use Rattle.std.specs.declared.option.Option.TheVariants.{Some, None}
use Rattle.std.specs.declared.result.Result.{Result}
use Rattle.std.specs.declared.result.Result.TheVariants.{Ok, Err}
use Rattle.metafile.specs.declared.refusal.Refusal.{Refusal}
use Rattle.metafile.specs.declared.ParentRow.{ParentRow}
use Rattle.metafile.specs.declared.Ends.{Ends}
use Rattle.metafile.specs.declared.CheckedRow.{CheckedRow}
use Rattle.metafile.specs.declared.Reached.{Reached}
use Rattle.metafile.specs.Refusals.{number_of}
use Rattle.metafile.specs.Bytes.{choose}

-- an accepted call's values, in the order of the paper, or one refusal number
pub data Answer : Type 0 where
  result : List ℕ → Answer
  refused : ℕ → Answer

-- yes is 1, no is 0
unfoldable pub flag : Bool → ℕ
flag b = cond b 1 0

-- how many bytes or entries were written
unfoldable pub count_answer : Result ℕ Refusal → Answer
count_answer (Ok n) = result (n ∷ [])
count_answer (Err r) = refused (number_of r)

-- "the row with that serial and whether the sub-formats agree, or missing"
unfoldable pub parent_answer : Result (Option ParentRow) Refusal → Answer
parent_answer (Ok (Some p)) = result (p.row ∷ flag p.agree ∷ [])
parent_answer (Ok None) = result []
parent_answer (Err r) = refused (number_of r)

-- "The answer is the three ends."
unfoldable pub append_answer : Result Ends Refusal → Answer
append_answer (Ok e) = result (e.first ∷ e.second ∷ e.third ∷ [])
append_answer (Err r) = refused (number_of r)

-- the number of verdicts, and the row
unfoldable pub checked_answer : Result CheckedRow Refusal → Answer
checked_answer (Ok c) = result (c.count ∷ c.row ∷ [])
checked_answer (Err r) = refused (number_of r)

-- how many rows are listed, and how many dependencies name no row
unfoldable pub ancestors_answer : Result Reached Refusal → Answer
ancestors_answer (Ok a) = result (a.count ∷ a.missing ∷ [])
ancestors_answer (Err r) = refused (number_of r)

-- ---- refusals

-- a test that refuses with its number where it holds; the first that does decides
pub record Test : Type 0 where
  pub number : ℕ
  pub holds : Bool

unfoldable pub refuse : ℕ → Bool → Test
refuse n b = record { number = n; holds = b }

unfoldable pub first_refusal : List Test → ℕ
first_refusal [] = 0
first_refusal (t ∷ ts) = cond t.holds t.number (first_refusal ts)

-- "11 a lent byte buffer over 2^30"
unfoldable pub limit : ℕ
limit = 2 ^ 30

unfoldable pub over_limit : List ℕ → Bool
over_limit [] = false
over_limit (n ∷ ns) = ltb limit n || over_limit ns

-- ---- a call that writes: its answer, and what the lent buffer then holds
pub record Outcome : Type 0 where
  pub answer : Answer
  pub buffer : List ℕ

abbrev pub outcome : Answer → List ℕ → Outcome
outcome answer buffer = record { answer = answer; buffer = buffer }

-- these bytes at the place p of a buffer; "Bytes past the new end keep their state"
unfoldable pub placed : ℕ → List ℕ → List ℕ → List ℕ
placed p v buffer = take p buffer ++ (v ++ drop (p + length v) buffer)

-- ""Number only" leaves every buffer untouched, as does 1 to 9 from begin or append."
unfoldable pub unless_refused : List Test → List ℕ → Outcome → Outcome
unless_refused tests buffer done = choose (first_refusal tests) done (λ n. record { answer = refused n; buffer = buffer })
