-- What gather gives behind the row: over the contents r of a MultiChunk and a short ID of 10 bytes. Assumes nothing.
use Rattle.std.specs.Prelude.{ℕ, not, List, [], ◌∷◌, ltb, length}
use Rattle.metafile.specs.Bytes.{member}
use Rattle.metafile.specs.Multi.{declared_ids, multi_joined}
use Rattle.metafile.specs.Answers.{result, refuse, Outcome, outcome, placed, unless_refused}

-- tests 14 and 18
unfoldable pub gather_from : List ℕ → List ℕ → List ℕ → Outcome
gather_from r id buffer =
    unless_refused
    (refuse 14 (not (member id (declared_ids r))) ∷ refuse 18 (ltb (length buffer) (length (multi_joined id r))) ∷ [])
    buffer
    (outcome (result (length (multi_joined id r) ∷ [])) (placed 0 (multi_joined id r) buffer))
