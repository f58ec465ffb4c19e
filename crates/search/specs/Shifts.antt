-- How far the search for a mark m may move on from a place, and how many places it tries. "Add a search that makes a table of
-- 256 shifts from the mark's bytes and passes over places that can't match." Where the mark first occurs stays with metafile
-- (specs/Bytes, find). Here s are the bytes from a place on. Assumes nothing.
use Rattle.std.specs.Prelude.{ℕ, zero, suc, ◌+◌, ◌-◌, ◌<◌, max, Bool, false, cond, not, ◌||◌, ◌≡◌, List, [], ◌∷◌, leb, ltb, eqb, length, drop, get_or}
use Rattle.metafile.specs.Bytes.{all, starts, find}

-- "a table of 256 shifts from the mark's bytes": how far the mark may move when x stands under its last byte. That is how many
-- bytes of the mark follow the last x in it, its last byte left out; all of its length where there is no x.
unfoldable pub shift_from : ℕ → List ℕ → ℕ → ℕ
shift_from x [] k = k
shift_from x (y ∷ []) k = k
shift_from x (y ∷ z ∷ ys) k = shift_from x (z ∷ ys) (cond (eqb y x) (length (z ∷ ys)) k)

unfoldable pub shift_of : List ℕ → ℕ → ℕ
shift_of m x = shift_from x m (length m)

-- a table of them
abbrev pub ShiftsOf : List ℕ → List ℕ → Type 0
ShiftsOf m table = (x : ℕ) → x < 256 → get_or table x 0 ≡ shift_of m x

-- how many first bytes of m and s agree
unfoldable pub common_of : List ℕ → List ℕ → ℕ
common_of [] s = 0
common_of (x ∷ m) [] = 0
common_of (x ∷ m) (y ∷ s) = cond (eqb y x) (suc (common_of m s)) 0

-- the byte under the mark's last one
abbrev pub last_of : List ℕ → List ℕ → ℕ
last_of m s = get_or s (length m - 1) 0

-- The mark does not stand here: the next place at which it can. The byte under its last one decides; where these two agree,
-- also the first byte that differs, which is so many bytes before the last one.
unfoldable pub ahead : List ℕ → List ℕ → ℕ
ahead m s =
    cond (eqb (last_of m s) (last_of m m))
    (max (shift_of m (last_of m s)) (shift_of m (get_or s (common_of m s) 0) - (length m - 1 - common_of m s)))
    (shift_of m (last_of m s))

-- from a place that is less than 8 bytes on, and for a mark of less than 16 from any, further to the mark's first byte
unfoldable pub further_from : List ℕ → List ℕ → ℕ → ℕ
further_from m s a = cond (ltb a 8 || ltb (length m) 16) (a + find (get_or m 0 0 ∷ []) (drop a s)) a

-- how far on the next place is tried; 0 where the mark stands here
unfoldable pub step_of : List ℕ → List ℕ → ℕ
step_of m s = cond (starts m s) 0 (further_from m s (ahead m s))

-- "it counts the places it tries": those of s at which a whole mark has room and the byte under its last one is looked at, up to
-- the one where the mark is found. The next k bytes are passed over.
unfoldable pub tries : List ℕ → ℕ → List ℕ → ℕ
tries m k [] = 0
tries m (suc k) (x ∷ xs) = tries m k xs
tries m zero (x ∷ xs) =
    cond (leb (length m) (length (x ∷ xs)))
    (suc (cond (starts m (x ∷ xs)) 0 (tries m (step_of m (x ∷ xs) - 1) xs)))
    0

-- "data without a byte of the mark"
unfoldable pub is_in : ℕ → List ℕ → Bool
is_in x [] = false
is_in x (y ∷ ys) = eqb y x || is_in x ys

unfoldable pub without : List ℕ → List ℕ → Bool
without m s = all (λ x. not (is_in x m)) s
