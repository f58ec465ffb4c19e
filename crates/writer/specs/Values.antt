-- Values of lines as they are put together: one behind the other. Assumes nothing.
use Rattle.std.specs.Prelude.{ℕ, List, [], ◌∷◌, ◌++◌}
use Rattle.metafile.specs.declared.Description.{Description}
use Rattle.metafile.specs.Fields.{digits_of}
use Rattle.metafile.specs.Chunk.{header_length_for, dependency_length_for}
use Rattle.metafile.specs.Append.{given_values}

unfoldable pub joined : List (List ℕ) → List ℕ
joined [] = []
joined (v ∷ vs) = v ++ joined vs

-- the values of the head for n parents and s bytes of specific data
unfoldable pub head_values_for : Description → ℕ → ℕ → List (List ℕ)
head_values_for d n s = digits_of 12 (header_length_for n s) ∷ given_values d ++ digits_of 12 (dependency_length_for n) ∷ digits_of 4 n ∷ []
