-- The fields of a line by number: 0 is the label, 1 the value, 2 LF; and what the field reader answers. Assumes nothing.
use Rattle.std.specs.Prelude.{ℕ, ◌+◌, ◌≡◌, List, [], ◌∷◌, ◌++◌, drop, get_or}
use Rattle.std.specs.declared.result.Result.{Result}
use Rattle.std.specs.declared.result.Result.TheVariants.{Ok, Err}
use Rattle.metafile.specs.Refusals.{number_of}
use Rattle.metafile.specs.Lines.{Field, lf, opened, size, run}
use Rattle.table.specs.Codes.{line_no}
use Rattle.lines.specs.declared.reader.Refused.{Refused}

unfoldable pub field_no : ℕ → ℕ → Field
field_no i p = get_or (opened (line_no i) ++ lf ∷ []) p lf

-- the fault of what was read, 0 where it has none; and the position behind it
abbrev pub fault_taken : Result ℕ Refused → ℕ
fault_taken (Ok p) = 0
fault_taken (Err x) = number_of x.refusal

abbrev pub behind_taken : Result ℕ Refused → ℕ
behind_taken (Ok p) = p
behind_taken (Err x) = x.behind

-- fields read at a position: "Fields are read in file order", the first fault counts; and the position behind them,
-- whatever the fault
pub record Takes (fs : List Field) (at : ℕ) (s : List ℕ) (r : Result ℕ Refused) : Type 0 where
  pub first : fault_taken r ≡ run fs (drop at s)
  pub behind : behind_taken r ≡ at + size fs
