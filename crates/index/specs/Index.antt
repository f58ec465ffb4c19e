-- Serial numbers that a reading has met, by a tag of each: "9 whole chunk, serial already in a row". An index is a count, which
-- is its user's, and slots behind it. A slot has a tag, or 0 where nothing is entered. Tag and slot are made of a hash of a
-- serial number's first 35 bytes; the search for the tag begins at the slot and goes on to the first empty one. Assumes nothing.
use Rattle.std.specs.Prelude.{ℕ, suc, ◌+◌, ◌*◌, ◌%◌, Bool, true, false, cond, ◌||◌, ◌≡◌, List, [], ◌∷◌, eqb, ltb, length, drop}
use Rattle.metafile.specs.Bytes.{part, is_zero}
use Rattle.metafile.specs.Fields.{known}
use Rattle.sums.specs.Lanes.{half_of}

-- ---- the hash

-- four bytes as a number, the first lowest
unfoldable pub word_at : ℕ → List ℕ → ℕ
word_at k x = half_of (part k 4 x)

-- four bytes for each weight; the last four begin in those before them
unfoldable pub hash_of : List ℕ → ℕ
hash_of x =
    word_at 0 x * 48271 + word_at 4 x * 69621 + word_at 8 x * 16807
    + (word_at 12 x * 39373 + word_at 16 x * 62089 + word_at 20 x * 95353)
    + (word_at 24 x * 111913 + word_at 28 x * 30323 + word_at 31 x * 84589)

-- ---- the slots

-- the tag of a hash: modulo the prime 2^32 - 5, and never 0
unfoldable pub tag_of : ℕ → ℕ
tag_of h = 1 + h % 4294967291

-- its slot: modulo another prime, 2^31 - 1, so that tag and slot seldom agree both; and squared, so that hashes which differ
-- by a count don't stand side by side
unfoldable pub slot_of : ℕ → ℕ
slot_of h = (h % 2147483647) * (h % 2147483647) % 2147483647 % 196613

-- the first of these entries that is empty or t
unfoldable pub first_of : ℕ → List ℕ → ℕ
first_of t [] = 0
first_of t (x ∷ xs) = cond (is_zero x || eqb x t) 0 (suc (first_of t xs))

-- the count, 196613 slots, and more behind them: for a search that begins at one of the last, and for what else the array is
-- lent
unfoldable pub size : ℕ
size = 197126

-- the place of h: the first entry of the index, from its slot on, that is empty or its tag
unfoldable pub place_for : ℕ → List ℕ → ℕ
place_for h index = 1 + slot_of h + first_of (tag_of h) (drop (1 + slot_of h) index)

-- that place where it is one of the first 512 from its slot on, else the end
unfoldable pub near_for : ℕ → List ℕ → ℕ
near_for h index = cond (ltb (place_for h index) (513 + slot_of h)) (place_for h index) (length index)

-- ---- what the index holds

-- t stands before the first empty slot
unfoldable pub reached : ℕ → List ℕ → Bool
reached t [] = false
reached t (x ∷ xs) = cond (is_zero x) false (eqb x t || reached t xs)

-- the tag of each of these serial numbers is found from its slot on
pub record Holds (serials : List (List ℕ)) (index : List ℕ) : Type 0 where
  pub long : length index ≡ size
  pub reach : (x : List ℕ) → known x serials ≡ true → reached (tag_of (hash_of x)) (drop (1 + slot_of (hash_of x)) index) ≡ true
