-- The values of lines as the writer is given them: one behind the other, each as wide as its line's kind; and the
-- closing of these values. Assumes nothing.
use Rattle.std.specs.Prelude.{ℕ, ◌+◌, List, [], ◌∷◌, ◌++◌, take, drop}
use Rattle.metafile.specs.Bytes.{sum}
use Rattle.metafile.specs.Fields.{digits_of}
use Rattle.metafile.specs.Lines.{Line, width, write}
use Rattle.metafile.specs.Closing.{summed, unsummed}

-- each value by itself
unfoldable pub chopped : List Line → List ℕ → List (List ℕ)
chopped [] v = []
chopped (l ∷ ls) v = take (width l.kind) v ∷ chopped ls (drop (width l.kind) v)

-- the bytes of all values
unfoldable pub values_size : List Line → ℕ
values_size [] = 0
values_size (l ∷ ls) = width l.kind + values_size ls

-- the closing with these values, behind the bytes that its sum covers
unfoldable pub closing_for : List ℕ → List (List ℕ) → List ℕ → List ℕ
closing_for m vs before = write (summed m) vs ++ write (unsummed m) (digits_of 3 (sum (before ++ write (summed m) vs)) ∷ [])
