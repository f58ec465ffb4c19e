-- What listing of this crate answers and leaves in the lent buffer, and pieces of its text. Assumes nothing.
use Rattle.std.specs.Prelude.{ℕ, Bool, List, [], ◌∷◌, ◌++◌, ltb, length}
use Rattle.metafile.specs.Bytes.{bytes}
use Rattle.metafile.specs.Answers.{result, refuse, over_limit, Outcome, outcome, placed, unless_refused}
use Rattle.metafile.specs.Listing.{decimal, line_of, header_word, listing}

-- four numbers, with a space behind each
unfoldable pub numbers : ℕ → ℕ → ℕ → ℕ → List ℕ
numbers a b c d = (decimal a ++ bytes " ") ++ (decimal b ++ bytes " ") ++ (decimal c ++ bytes " ") ++ (decimal d ++ bytes " ")

-- the header's word, of a file of no bytes or not; "the count of rows"
unfoldable pub head_lines : Bool → Bool → ℕ → List ℕ
head_lines none good count = line_of (bytes "header" ∷ header_word none good ∷ []) ++ line_of (bytes "chunks" ∷ decimal count ∷ [])

-- "18" is known before the first byte is written
unfoldable pub listing_outcome : List ℕ → List ℕ → Outcome
listing_outcome input buffer =
    unless_refused
    (refuse 11 (over_limit (length buffer ∷ [])) ∷ refuse 18 (ltb (length buffer) (length (listing input))) ∷ [])
    buffer
    (outcome (result (length (listing input) ∷ [])) (placed 0 (listing input) buffer))
