-- Eight bytes as one word, and what sums of words tell of the sum of their bytes. "Add eight bytes at a time from one
-- machine word, with the last bytes singly." What a sum of bytes is stays with metafile (specs/Bytes). Assumes nothing.
use Rattle.std.specs.Prelude.{◌≡◌, ℕ, ◌+◌, ◌*◌, ◌/◌, ◌%◌, ◌^◌, ◌≤◌, List, [], ◌∷◌, slice_index}

-- bytes as one number, the first lowest
unfoldable pub word_of : List ℕ → ℕ
word_of [] = 0
word_of (x ∷ xs) = x + 256 * word_of xs

-- four of them
abbrev pub half_of : List ℕ → ℕ
half_of s = slice_index s 0 + slice_index s 1 * 256 + slice_index s 2 * 65536 + slice_index s 3 * 16777216

-- four lanes of 16 bits as one number
abbrev pub lanes : (a b c d : ℕ) → ℕ
lanes a b c d = a + b * 65536 + c * 4294967296 + d * 281474976710656

-- the bytes at the even places of a word, each in a lane of its own
abbrev pub evens_of : ℕ → ℕ
evens_of w = lanes (w % 256) (w / 65536 % 256) (w / 4294967296 % 256) (w / 281474976710656 % 256)

-- Four lanes, each the sum of at most n bytes: v is their number, s what they add up to.
pub record Lanes (n v s : ℕ) : Type 0 where
  pub a : ℕ
  pub b : ℕ
  pub c : ℕ
  pub d : ℕ
  pub a-most : a ≤ 255 * n
  pub b-most : b ≤ 255 * n
  pub c-most : c ≤ 255 * n
  pub d-most : d ≤ 255 * n
  pub number : v ≡ lanes a b c d
  pub adds : s ≡ a + b + c + d

-- Of at most n words, whose bytes add up to s: `all` is their sum modulo 2 ^ 64, `even` the lanes of their even bytes. The
-- lanes of their odd bytes are in no variable of the code: `all` has them a byte higher.
pub record Words (n all even s : ℕ) : Type 0 where
  pub odd : ℕ
  pub even_sum : ℕ
  pub odd-sum : ℕ
  pub evens : Lanes n even even_sum
  pub odds : Lanes n odd odd-sum
  pub words : all ≡ (even + 256 * odd) % 2 ^ 64
  pub adds : s ≡ even_sum + odd-sum
