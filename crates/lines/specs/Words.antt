-- The listed words by the numbers that the code gives them, and three bytes as one number. Assumes nothing.
use Rattle.std.specs.Prelude.{ℕ, ◌+◌, ◌*◌, ◌<◌, ◌≡◌, List, [], ◌∷◌, get_or}
use Rattle.metafile.specs.Lines.{LLC, NUL, BIN, TXT, GEN, SPE, UTC, ALT, SLV, MAS}

unfoldable pub word_no : ℕ → List ℕ
word_no w = get_or (LLC ∷ NUL ∷ BIN ∷ TXT ∷ GEN ∷ SPE ∷ UTC ∷ ALT ∷ SLV ∷ MAS ∷ []) w []

-- x is three bytes as one number, the first lowest
pub record Three (s : List ℕ) (x : ℕ) : Type 0 where
  pub first : get_or s 0 0 < 256
  pub second : get_or s 1 0 < 256
  pub third : get_or s 2 0 < 256
  pub number : x ≡ get_or s 0 0 + get_or s 1 0 * 256 + get_or s 2 0 * 65536
