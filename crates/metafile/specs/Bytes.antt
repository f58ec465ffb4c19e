-- Bytes and lists of bytes, and the first fault. "All bytes are 8-bit; LF is the byte 10."
-- A byte is a number, a run of bytes a list of numbers. Assumes nothing.
use Rattle.std.specs.Prelude.{ℕ, zero, suc, ◌+◌, ◌%◌, Bool, true, false, cond, not, ◌&&◌, ◌||◌, List, [], ◌∷◌, eqb, length, take, drop}
use Prim.Native.String.{String, [] as none, ◌∷◌ as ◌before◌}
use Prim.Native.Char.{code}

infixr 20 ◌⊳◌
-- the bytes of a text; "Fixed texts are joined without spaces of their own."
abbrev pub bytes : String → List ℕ
bytes none = []
bytes (◌before◌ c s) = code c ∷ bytes s

-- n bytes from the place p on
abbrev pub part : ℕ → ℕ → List ℕ → List ℕ
part p n s = take n (drop p s)

unfoldable pub all : (ℕ → Bool) → List ℕ → Bool
all p [] = true
all p (x ∷ xs) = p x && all p xs

unfoldable pub is_zero : ℕ → Bool
is_zero zero = true
is_zero (suc n) = false

unfoldable pub non_zero : ℕ → Bool
non_zero x = not (is_zero x)

unfoldable pub is_empty : List ℕ → Bool
is_empty [] = true
is_empty (x ∷ xs) = false

-- the same bytes
unfoldable pub same : List ℕ → List ℕ → Bool
same [] [] = true
same [] (y ∷ ys) = false
same (x ∷ xs) [] = false
same (x ∷ xs) (y ∷ ys) = eqb x y && same xs ys

-- one of a list of runs of bytes
unfoldable pub member : List ℕ → List (List ℕ) → Bool
member x [] = false
member x (y ∷ ys) = same x y || member x ys

-- the bytes s begin with m
unfoldable pub starts : List ℕ → List ℕ → Bool
starts m s = same (take (length m) s) m

-- "the first place where the mark occurs"; where it doesn't, the end: there the mark's own field is too short (4)
unfoldable pub find : List ℕ → List ℕ → ℕ
find m [] = 0
find m (x ∷ xs) = cond (starts m (x ∷ xs)) 0 (suc (find m xs))

-- "added byte by byte, modulo 256"
unfoldable pub total : List ℕ → ℕ
total [] = 0
total (x ∷ xs) = x + total xs

unfoldable pub sum : List ℕ → ℕ
sum s = total s % 256

-- ---- faults: 0 is none, any other is the number of the refusal

-- the first fault of two stages that stand in a row
unfoldable pub ◌⊳◌ : ℕ → ℕ → ℕ
zero ⊳ b = b
suc a ⊳ b = suc a

-- no fault where the test holds, else this number
unfoldable pub require : Bool → ℕ → ℕ
require b n = cond b 0 n

-- go on where there is no fault, else give what the number gives
unfoldable pub choose : {A : Type 0} → ℕ → A → (ℕ → A) → A
choose zero go stop = go
choose (suc n) go stop = stop (suc n)
