-- Blocks and faults by computing: the bytes of packed files, the faults in their order, the calls. An edit of the definitions
-- fails here. Assumes nothing.
--     two_blocks one_block    505 bytes of 255, and three bytes; no bytes are `lost-alone` of Losses
--     Counts                  how many blocks a file has
--     Faults                  the first wrong block, and its first fault
--     Answers                 the calls, with room and without
use Rattle.std.proofs.Common.{◌≡◌, ℕ, List, [], ◌∷◌, ◌++◌, drop, replicate, refl}
use Rattle.metafile.proofs.Computed.{computed}
use Rattle.metafile.specs.Bytes.{bytes}
use Rattle.metafile.specs.Answers.{result, refused, outcome}
use Rattle.blocks.specs.Blocks.{big_endian, big_value_from, big_value, block_sum, before_sum, block, block_count, data_at, block_for, packed, blocks_of, block_of, use_of, use_right, block_fault, fault_of, unpack_fault, data_of, unpacked, pack_tests, pack, unpack_tests, unpack}

-- a block with these numbers, data and spare bytes, and its right sum
unfoldable pub summed : List ℕ → List ℕ
summed v = v ++ big_endian 2 (block_sum v)

unfoldable pub full : List ℕ
full = replicate 504 255

-- number and use of a first block that is full
unfoldable pub headed : List ℕ
headed = 0 ∷ 0 ∷ 0 ∷ 0 ∷ 1 ∷ 248 ∷ []

-- `unfolding carried` opens these values and every definition
unfoldable carried : Unit {0}
unfolding computed big_endian big_value_from big_value block_sum before_sum block block_count data_at block_for packed blocks_of block_of use_of use_right block_fault fault_of unpack_fault data_of unpacked pack_tests pack unpack_tests unpack summed full headed
carried = tt

-- ---- packed files

pub two_blocks : packed (replicate 505 255) ≡ (headed ++ full ++ 247 ∷ 1 ∷ []) ++ (0 ∷ 0 ∷ 0 ∷ 1 ∷ 0 ∷ 1 ∷ 255 ∷ []) ++ replicate 503 0 ++ 1 ∷ 1 ∷ []
unfolding carried
two_blocks = refl

pub one_block : packed (bytes "abc") ≡ 0 ∷ 0 ∷ 0 ∷ 0 ∷ 0 ∷ 3 ∷ bytes "abc" ++ replicate 501 0 ++ 1 ∷ 41 ∷ []
unfolding carried
one_block = refl

pub record Counts : Type 0 where
  pub none : block_count 0 ≡ 1
  pub one : block_count 1 ≡ 1
  pub whole : block_count 504 ≡ 1
  pub more : block_count 505 ≡ 2
  pub next : block_count 1009 ≡ 3

pub counts : Counts
unfolding carried
counts = record { none = refl; one = refl; whole = refl; more = refl; next = refl }

-- ---- faults

pub record Faults : Type 0 where
  pub no_block : unpack_fault [] ≡ 29
  pub zeros : unpack_fault (replicate 512 0) ≡ 0
  pub more-zeros : unpack_fault (replicate 1024 0) ≡ 29
  pub partial : unpack_fault (replicate 512 0 ++ bytes "x") ≡ 29
  pub short : unpack_fault (replicate 511 0) ≡ 29
  -- 27 before 28 before 29
  pub sum : unpack_fault (replicate 509 0 ++ 1 ∷ 0 ∷ 0 ∷ []) ≡ 27
  pub sum_first : unpack_fault (0 ∷ 0 ∷ 0 ∷ 1 ∷ 255 ∷ 255 ∷ replicate 506 0) ≡ 27
  pub number-first : unpack_fault (summed (0 ∷ 0 ∷ 0 ∷ 1 ∷ 255 ∷ 255 ∷ replicate 504 0)) ≡ 28
  pub high-number : unpack_fault (summed (1 ∷ 0 ∷ 0 ∷ 0 ∷ 0 ∷ 0 ∷ replicate 504 0)) ≡ 28
  pub use-over : unpack_fault (summed (0 ∷ 0 ∷ 0 ∷ 0 ∷ 1 ∷ 249 ∷ replicate 504 0)) ≡ 29
  pub spare : unpack_fault (summed (replicate 509 0 ++ 1 ∷ [])) ≡ 29
  -- a block that isn't last uses 504; the last of several doesn't use 0
  pub before_last : unpack_fault (summed (0 ∷ 0 ∷ 0 ∷ 0 ∷ 1 ∷ 247 ∷ replicate 504 0) ++ summed (0 ∷ 0 ∷ 0 ∷ 1 ∷ 0 ∷ 1 ∷ replicate 504 0)) ≡ 29
  pub last_none : unpack_fault (summed (headed ++ full) ++ summed (0 ∷ 0 ∷ 0 ∷ 1 ∷ replicate 506 0)) ≡ 29
  pub last_some : unpack_fault (summed (headed ++ full) ++ summed (0 ∷ 0 ∷ 0 ∷ 1 ∷ 0 ∷ 1 ∷ replicate 504 0)) ≡ 0
  -- the first wrong block decides
  pub first-wrong : unpack_fault (1 ∷ replicate 511 0 ++ replicate 5 0) ≡ 27
  pub second-wrong : unpack_fault (summed (headed ++ full) ++ summed (headed ++ full)) ≡ 28

pub faults : Faults
unfolding carried
faults =
    record {
      no_block = refl;
      zeros = refl;
      more-zeros = refl;
      partial = refl;
      short = refl;
      sum = refl;
      sum_first = refl;
      number-first = refl;
      high-number = refl;
      use-over = refl;
      spare = refl;
      before_last = refl;
      last_none = refl;
      last_some = refl;
      first-wrong = refl;
      second-wrong = refl;
    }

-- ---- the calls

pub record Answers : Type 0 where
  pub none-packed : pack [] (replicate 513 9) ≡ outcome (result (512 ∷ [])) (replicate 512 0 ++ 9 ∷ [])
  pub no_room : pack [] (replicate 511 9) ≡ outcome (refused 18) (replicate 511 9)
  pub none-unpacked : unpack (replicate 512 0) (9 ∷ []) ≡ outcome (result (0 ∷ [])) (9 ∷ [])
  pub three-unpacked : unpack (packed (bytes "abc")) (replicate 4 9) ≡ outcome (result (3 ∷ [])) (bytes "abc" ++ 9 ∷ [])
  pub too_short : unpack (packed (bytes "abc")) (replicate 2 9) ≡ outcome (refused 18) (replicate 2 9)
  -- a wrong block comes before 18
  pub wrong_first : unpack (drop 1 (packed (bytes "abc"))) (replicate 2 9) ≡ outcome (refused 29) (replicate 2 9)

pub answers : Answers
unfolding carried
answers =
    record { none-packed = refl; no_room = refl; none-unpacked = refl; three-unpacked = refl; too_short = refl; wrong_first = refl }
