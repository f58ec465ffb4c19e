-- What the check gives behind the row: over its contents, a text. Assumes nothing.
use Rattle.std.specs.Prelude.{ℕ, not, List, [], ◌∷◌, ltb, length}
use Rattle.metafile.specs.Bytes.{same}
use Rattle.metafile.specs.Lines.{first_of}
use Rattle.metafile.specs.Answers.{result, refuse, Outcome, outcome, placed, unless_refused}
use Rattle.metafile.specs.Relations.{split_on, heading, verdicts}

-- the verdicts in front, and behind them what the list had
unfoldable pub judged : List ℕ → List ℕ → List ℕ → List ℕ
judged file text list = placed 0 (verdicts file (split_on 10 text)) list

-- tests 20 and 18
unfoldable pub checked_text : List ℕ → List ℕ → List ℕ → Outcome
checked_text file text list =
    unless_refused
    (refuse 20 (not (same (first_of (split_on 10 text)) heading))
    ∷ refuse 18 (ltb (length list) (length (verdicts file (split_on 10 text))))
    ∷ [])
    list
    (outcome (result (length (verdicts file (split_on 10 text)) ∷ [])) (judged file text list))
