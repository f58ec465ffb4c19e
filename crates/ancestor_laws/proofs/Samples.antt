-- All that a chunk rests on, by computing: small files of bytes, each given by the parents that its rows name; and what is
-- reached in steps where the parents are given without a file. Assumes nothing.
--     diamond-listed later-listed twice-named   which rows are listed
--     other_name                                a parent is found by its serial number alone
--     missing-three cut_off                     dependencies that name no row
--     own-circle led-to-circle circle-elsewhere 23, and not 23
--     no_row list-short circle-first            13, 18, and their order
--     rows-65                                   24, and 13 before it
--     Closures                                  chains, circles and two ways to one row
use Prim.Native.Nat.{ℕ, zero, suc, ◌+◌, ◌^◌, ◌≤◌}
use mathlib.Core.Bool.{true, false, cond}
use mathlib.Core.Path.{◌≡◌, refl}
use mathlib.Core.List.{List, [], ◌∷◌, ◌++◌}
use native.Mathlib.Omega.{arith}
use lib.ListN.{length, take, get_or}
use Rattle.metafile.specs.Bytes.{bytes, sum}
use Rattle.metafile.specs.Fields.{digits_of}
use Rattle.metafile.specs.Below.{join_below}
use Rattle.metafile.specs.Closure.{by_way, circular_from}
use Rattle.metafile.specs.Reading.{reading, rows_of}
use Rattle.metafile.specs.Answers.{result, refused, outcome}
use Rattle.metafile.specs.Calls.{parent}
use Rattle.metafile.specs.Ancestors.{ancestors}
use Rattle.metafile.proofs.Samples.{paper_serial, begun_abab}
use Rattle.metafile.proofs.SpacesInFront.{spaced_serial}
use Rattle.metafile.proofs.Relations.{relations_serial, child_serial, missing_serial, test_id, other_id, chunk_with, related}
use Rattle.metafile.proofs.Latest.{fourth_serial}
use Rattle.metafile.proofs.Ways.{goes_to}
use Rattle.metafile.proofs.Circles.{diamond}
use Rattle.ancestor_laws.proofs.Numbers.{number-13, number-24}

-- ---- files by their parents

-- the serial numbers of rows 0 to 3; of any other, one that no row has
unfoldable pub serial_of_row : ℕ → List ℕ
serial_of_row i = get_or (paper_serial ∷ relations_serial ∷ child_serial ∷ fourth_serial ∷ []) i missing_serial

-- serial number and sub-format of each parent
unfoldable pub named : List ℕ → List (List ℕ)
named [] = []
named (p ∷ ps) = serial_of_row p ∷ test_id ∷ named ps

-- row i and the rows behind it, the parents of each given by row number
unfoldable pub chunks_from : ℕ → List (List ℕ) → List ℕ
chunks_from i [] = []
chunks_from i (ps ∷ pss) = chunk_with (serial_of_row i) test_id (length ps) (named ps) [] ++ chunks_from (suc i) pss

-- a file of at most four rows; 9 stands for a parent that no row is
unfoldable pub file_of : List (List ℕ) → List ℕ
file_of parents = begun_abab ++ chunks_from 0 parents

-- row 1 names row 0 by its serial number, the check written with spaces, under another sub-format
unfoldable pub other_named : List ℕ
other_named =
    begun_abab
    ++ chunk_with paper_serial test_id 0 [] []
    ++ chunk_with relations_serial test_id 1 (spaced_serial ∷ other_id ∷ []) []

-- row 1 → row 2
unfoldable pub whole : List ℕ
whole = file_of ([] ∷ (2 ∷ []) ∷ [] ∷ [])

-- the same, cut n bytes behind row 1
unfoldable pub cut : ℕ → List ℕ
cut n = take (length (file_of ([] ∷ (2 ∷ []) ∷ [])) + n) whole

-- `unfolding sampled` opens these values and every definition
unfoldable pub sampled : Unit {0}
unfolding related fourth_serial goes_to diamond serial_of_row named chunks_from file_of other_named whole cut
sampled = tt

-- ---- which rows are listed

-- row 3 → rows 1 and 2, each of them → row 0: two ways to a row are no circle, and it is listed one time
pub diamond-listed : ancestors (file_of diamond) 3 (9 ∷ 9 ∷ 9 ∷ 9 ∷ []) ≡ outcome (result (3 ∷ 0 ∷ [])) (0 ∷ 1 ∷ 2 ∷ 9 ∷ [])
unfolding sampled
diamond-listed = refl

-- row 0 → row 1, which stands behind it
pub later-listed : ancestors (file_of ((1 ∷ []) ∷ [] ∷ [])) 0 (9 ∷ []) ≡ outcome (result (1 ∷ 0 ∷ [])) (1 ∷ [])
unfolding sampled
later-listed = refl

-- row 1 names row 0 twice
pub twice-named : ancestors (file_of ([] ∷ (0 ∷ 0 ∷ []) ∷ [])) 1 (9 ∷ 9 ∷ []) ≡ outcome (result (1 ∷ 0 ∷ [])) (0 ∷ 9 ∷ [])
unfolding sampled
twice-named = refl

-- the sub-formats don't agree, and don't matter
pub other_name :
    (parent other_named 1 0 ≡ result (0 ∷ 0 ∷ [])) × (ancestors other_named 1 (9 ∷ []) ≡ outcome (result (1 ∷ 0 ∷ [])) (0 ∷ []))
unfolding sampled
other_name = (refl, refl)

-- ---- dependencies that name no row

-- row 1 → row 0 names a serial number of no row twice, row 0 names it once; row 2 isn't reached, and isn't counted
pub missing-three : ancestors (file_of ((9 ∷ []) ∷ (9 ∷ 0 ∷ 9 ∷ []) ∷ (9 ∷ []) ∷ [])) 1 (9 ∷ []) ≡ outcome (result (1 ∷ 3 ∷ [])) (0 ∷ [])
unfolding sampled
missing-three = refl

-- row 1's parent is listed; in a file cut before it, or inside it (where the reading ends with 4), it names no row
pub cut_off :
    (ancestors whole 1 (9 ∷ []) ≡ outcome (result (1 ∷ 0 ∷ [])) (2 ∷ []))
    × (ancestors (cut 0) 1 (9 ∷ []) ≡ outcome (result (0 ∷ 1 ∷ [])) (9 ∷ []))
    × ((reading (cut 100)).number ≡ 4)
    × (ancestors (cut 100) 1 (9 ∷ []) ≡ outcome (result (0 ∷ 1 ∷ [])) (9 ∷ []))
unfolding sampled
cut_off = (refl, refl, refl, refl)

-- ---- 23

-- a row that names itself
pub own-circle : ancestors (file_of ((0 ∷ []) ∷ [])) 0 (9 ∷ []) ≡ outcome (refused 23) (9 ∷ [])
unfolding sampled
own-circle = refl

-- row 0 → row 1 → row 2 → row 1: the circle doesn't go through row 0
pub led-to-circle : ancestors (file_of ((1 ∷ []) ∷ (2 ∷ []) ∷ (1 ∷ []) ∷ [])) 0 (9 ∷ 9 ∷ []) ≡ outcome (refused 23) (9 ∷ 9 ∷ [])
unfolding sampled
led-to-circle = refl

-- rows 0 and 1 name each other; row 2 → row 3 doesn't reach them
pub circle-elsewhere :
    ancestors (file_of ((1 ∷ []) ∷ (0 ∷ []) ∷ (3 ∷ []) ∷ [] ∷ [])) 2 (9 ∷ []) ≡ outcome (result (1 ∷ 0 ∷ [])) (3 ∷ [])
unfolding sampled
circle-elsewhere = refl

-- ---- 13, 18, and the order

-- k past the last row, and a file of no bytes
pub no_row :
    (ancestors (file_of ((0 ∷ []) ∷ [])) 1 (9 ∷ []) ≡ outcome (refused 13) (9 ∷ []))
    × (ancestors [] 0 (9 ∷ []) ≡ outcome (refused 13) (9 ∷ []))
unfolding sampled
no_row = (refl, refl)

-- three rows are found, the list has two entries
pub list-short : ancestors (file_of diamond) 3 (9 ∷ 9 ∷ []) ≡ outcome (refused 18) (9 ∷ 9 ∷ [])
unfolding sampled
list-short = refl

-- 23 before 18
pub circle-first : ancestors (file_of ((1 ∷ []) ∷ (0 ∷ []) ∷ [])) 0 [] ≡ outcome (refused 23) []
unfolding sampled
circle-first = refl

-- ---- 24

-- serial numbers that differ in their random part
unfoldable pub serial_by : ℕ → List ℕ
serial_by i =
    let v : List ℕ = bytes "#20240229123456789SURVEYDESK01" ++ digits_of 5 i in
    v ++ digits_of 3 (sum v)

-- n rows without dependencies
unfoldable pub rows_alone : ℕ → List ℕ
rows_alone zero = begun_abab
rows_alone (suc n) = rows_alone n ++ chunk_with (serial_by n) test_id 0 [] []

-- 65 rows in 56,487 bytes
rows-there : length (rows_of (rows_alone 65)) ≡ 65
unfolding sampled serial_by rows_alone
rows-there = refl

rows_long : length (rows_alone 65) ≡ 56487
unfolding sampled serial_by rows_alone
rows_long = refl

-- 24, though no row is reached; 13 before it
pub rows-65 : ((ancestors (rows_alone 65) 0 []).answer ≡ refused 24) × ((ancestors (rows_alone 65) 65 []).answer ≡ refused 13)
rows-65 =
    let many = rows-there in
    let small : length (rows_alone 65) ≤ 2 ^ 30 = omega (arith, rows_long) in
    ((number-24 (rows_alone 65) 0 []).1 (small, omega arith, omega arith), (number-13 (rows_alone 65) 65 []).1 (small, omega arith))

-- ---- without a file

-- the rows that row a reaches, of n
unfoldable pub reached_from : List (List ℕ) → ℕ → ℕ → List ℕ
reached_from parents n a = join_below n (λ (i : ℕ). cond (by_way (goes_to parents) n a i) (i ∷ []) [])

-- row 0 → row 1 → row 2 → row 3 → row 4
unfoldable pub chain_of5 : List (List ℕ)
chain_of5 = (1 ∷ []) ∷ (2 ∷ []) ∷ (3 ∷ []) ∷ (4 ∷ []) ∷ [] ∷ []

-- row 0 → row 3 → row 1 → row 4 → row 2
unfoldable pub crossing : List (List ℕ)
crossing = (3 ∷ []) ∷ (4 ∷ []) ∷ [] ∷ (1 ∷ []) ∷ (2 ∷ []) ∷ []

-- row 0 → row 1 → row 2 → row 0, and row 3 → row 2
unfoldable pub circle_of3 : List (List ℕ)
circle_of3 = (1 ∷ []) ∷ (2 ∷ []) ∷ (0 ∷ []) ∷ (2 ∷ []) ∷ []

pub record Closures : Type 0 where
  pub chain_first : reached_from chain_of5 5 0 ≡ 1 ∷ 2 ∷ 3 ∷ 4 ∷ []
  pub chain-middle : reached_from chain_of5 5 2 ≡ 3 ∷ 4 ∷ []
  pub chain-open : circular_from (goes_to chain_of5) 5 0 ≡ false
  pub crossed : reached_from crossing 5 0 ≡ 1 ∷ 2 ∷ 3 ∷ 4 ∷ []
  pub crossed-middle : reached_from crossing 5 1 ≡ 2 ∷ 4 ∷ []
  pub circle-round : reached_from circle_of3 4 1 ≡ 0 ∷ 1 ∷ 2 ∷ []
  pub circle-to : reached_from circle_of3 4 3 ≡ 0 ∷ 1 ∷ 2 ∷ []
  pub circle-found : circular_from (goes_to circle_of3) 4 3 ≡ true
  pub two_ways : reached_from diamond 4 3 ≡ 0 ∷ 1 ∷ 2 ∷ []

pub closures : Closures
unfolding sampled reached_from chain_of5 crossing circle_of3
closures =
    record {
      chain_first = refl;
      chain-middle = refl;
      chain-open = refl;
      crossed = refl;
      crossed-middle = refl;
      circle-round = refl;
      circle-to = refl;
      circle-found = refl;
      two_ways = refl;
    }
