-- What a line of a relation chunk is by itself. Assumes nothing.
use Rattle.std.specs.Prelude.{ℕ, Bool, false, cond, ◌≡◌, List, [], ◌∷◌, Option, None, Some, length}
use Rattle.metafile.specs.Bytes.{part, same}
use Rattle.metafile.specs.Lines.{first_of}
use Rattle.metafile.specs.Chunk.{sub_format, dependency_serial_of, dependency_sub_format_of}
use Rattle.metafile.specs.Relations.{divided, split_on, relation_name, field_no, well_formed, declared, undeclared, malformed, verdict_by}
use Rattle.relation_line.specs.declared.verdicts.Verdict.{Verdict}
use Rattle.relation_line.specs.declared.verdicts.Verdict.TheVariants.{Declared, Undeclared, Malformed}

-- the first field is the name of a relation line
abbrev pub has_name : List ℕ → Bool
has_name line = same (first_of (split_on 9 line)) relation_name

-- 0 a comment, 2 a relation line of five well-formed fields, 3 a malformed one
unfoldable pub form_of : List ℕ → ℕ
form_of line = verdict_by (λ (fs : List (List ℕ)). false) line

abbrev pub verdict_number : Verdict → ℕ
verdict_number Declared = declared
verdict_number Undeclared = undeclared
verdict_number Malformed = malformed

-- the verdict of a line where nothing is declared yet; a comment has none
unfoldable pub first_verdict : List ℕ → Option Verdict
first_verdict line = cond (has_name line) (Some (cond (well_formed (split_on 9 line)) Undeclared Malformed)) None

abbrev pub form_number : Option Verdict → ℕ
form_number None = 0
form_number (Some v) = verdict_number v

-- where the fields of a line of five well-formed ones stand
pub record Five (line : List ℕ) : Type 0 where
  pub long : length line ≡ 604
  pub child_serial : field_no (split_on 9 line) 1 ≡ part 13 38 line
  pub child_name : field_no (split_on 9 line) 2 ≡ part 52 256 line
  pub parent_serial : field_no (split_on 9 line) 3 ≡ part 309 38 line
  pub parent_name : field_no (split_on 9 line) 4 ≡ part 348 256 line

-- the line of dependency j of the chunk s, which has this serial number
abbrev pub line_for : List ℕ → List ℕ → ℕ → List ℕ
line_for serial s j =
    divided 9 (relation_name ∷ serial ∷ sub_format s ∷ dependency_serial_of j s ∷ dependency_sub_format_of j s ∷ [])
