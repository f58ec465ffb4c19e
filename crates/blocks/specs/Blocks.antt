-- "Carry a file in blocks of 512 bytes": packed, judged, unpacked, and the two calls. Any bytes are a file here, and no metafile
-- is judged. Assumes nothing.
use Rattle.std.specs.Prelude.{ℕ, zero, suc, ◌+◌, ◌-◌, ◌*◌, ◌/◌, ◌%◌, Bool, not, ◌&&◌, ◌||◌, List, [], ◌∷◌, ◌++◌, length, take, replicate, ◌==◌, nat_le, nat_lt}
use Rattle.metafile.specs.Bytes.{part, all, is_zero, non_zero, is_empty, total, ◌⊳◌, require}
use Rattle.metafile.specs.Answers.{result, Test, refuse, over_limit, Outcome, outcome, placed, unless_refused}
use Rattle.metafile.specs.Below.{join_below, fault_below}

-- ---- numbers

-- "numbers big-endian": a number in n bytes
unfoldable pub big_endian : ℕ → ℕ → List ℕ
big_endian zero x = []
big_endian (suc n) x = big_endian n (x / 256) ++ x % 256 ∷ []

-- the number that bytes stand for, behind one that is read already
unfoldable pub big_value_from : ℕ → List ℕ → ℕ
big_value_from acc [] = acc
big_value_from acc (x ∷ xs) = big_value_from (acc * 256 + x) xs

unfoldable pub big_value : List ℕ → ℕ
big_value v = big_value_from 0 v

-- "the sum of the first 510 bytes modulo 65,536"
unfoldable pub block_sum : List ℕ → ℕ
block_sum v = total v % 65536

-- ---- packing

-- the bytes before the sum: "block number from 0 in 4 bytes, used bytes in 2, 504 data bytes"; "spare data bytes are zero"
unfoldable pub before_sum : ℕ → List ℕ → List ℕ
before_sum i v = big_endian 4 i ++ (big_endian 2 (length v) ++ (v ++ replicate (504 - length v) 0))

-- "and in 2 the sum of the first 510 bytes"
unfoldable pub block : ℕ → List ℕ → List ℕ
block i v = before_sum i v ++ big_endian 2 (block_sum (before_sum i v))

-- "All blocks but the last use 504"; "A file of no bytes is one block using 0."
unfoldable pub block_count : ℕ → ℕ
block_count n = 1 + (n - 1) / 504

-- the data of block i, and the block
unfoldable pub data_at : List ℕ → ℕ → List ℕ
data_at f i = part (504 * i) 504 f

unfoldable pub block_for : List ℕ → ℕ → List ℕ
block_for f i = block i (data_at f i)

unfoldable pub packed : List ℕ → List ℕ
packed f = join_below (block_count (length f)) (block_for f)

-- ---- unpacking

-- how many blocks there are; a partial one counts
unfoldable pub blocks_of : List ℕ → ℕ
blocks_of x = (length x + 511) / 512

-- block i, and what it says of its use
unfoldable pub block_of : List ℕ → ℕ → List ℕ
block_of x i = part (512 * i) 512 x

unfoldable pub use_of : List ℕ → ℕ
use_of b = big_value (part 4 2 b)

-- "All blocks but the last use 504"; only a first block may use 0: "whose last of several blocks uses 0, also gets 29"
unfoldable pub use_right : Bool → ℕ → ℕ → Bool
use_right last i u = nat_le u 504 && (last || u == 504) && (is_zero i || non_zero u)

-- "tested for its sum with 27, its number with 28, then its use, a spare byte that isn't zero or a partial block with 29"; a
-- partial block is 29 whatever its bytes are
unfoldable pub block_fault : Bool → ℕ → List ℕ → ℕ
block_fault last i b =
    require (nat_le 512 (length b)) 29
    ⊳ require (block_sum (take 510 b) == big_value (part 510 2 b)) 27
    ⊳ require (big_value (take 4 b) == i) 28
    ⊳ require (use_right last i (use_of b)) 29
    ⊳ require (all is_zero (part (6 + use_of b) (504 - use_of b) b)) 29

unfoldable pub fault_of : List ℕ → ℕ → ℕ
fault_of x i = block_fault (i + 1 == blocks_of x) i (block_of x i)

-- "The first wrong block decides"; "A packed file without a block .. also gets 29."
unfoldable pub unpack_fault : List ℕ → ℕ
unpack_fault x = require (not (is_empty x)) 29 ⊳ fault_below (blocks_of x) (fault_of x)

-- the data of block i, as many bytes as it uses
unfoldable pub data_of : List ℕ → ℕ → List ℕ
data_of x i = part 6 (use_of (block_of x i)) (block_of x i)

unfoldable pub unpacked : List ℕ → List ℕ
unpacked x = join_below (blocks_of x) (data_of x)

-- "All bytes are 8-bit"
unfoldable pub is_byte : ℕ → Bool
is_byte x = nat_lt x 256

-- ---- the calls

-- "In all these requests 11 is tested first and 18 .. last"
unfoldable pub pack_tests : List ℕ → List ℕ → List Test
pack_tests file buffer =
    refuse 11 (over_limit (length file ∷ length buffer ∷ []))
    ∷ refuse 18 (nat_lt (length buffer) (length (packed file)))
    ∷ []

-- "a call that writes answers the length reached and keeps the bytes past it"
unfoldable pub pack : List ℕ → List ℕ → Outcome
pack file buffer =
    unless_refused (pack_tests file buffer) buffer
    (outcome (result (length (packed file) ∷ [])) (placed 0 (packed file) buffer))

-- the first wrong block behind 11 and before 18
unfoldable pub unpack_tests : List ℕ → List ℕ → List Test
unpack_tests x buffer =
    refuse 11 (over_limit (length x ∷ length buffer ∷ []))
    ∷ refuse (unpack_fault x) (non_zero (unpack_fault x))
    ∷ refuse 18 (nat_lt (length buffer) (length (unpacked x)))
    ∷ []

unfoldable pub unpack : List ℕ → List ℕ → Outcome
unpack x buffer =
    unless_refused (unpack_tests x buffer) buffer
    (outcome (result (length (unpacked x) ∷ [])) (placed 0 (unpacked x) buffer))
