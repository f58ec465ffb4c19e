-- The parts of one block that was made, and a block that is right, made again.
--     data-few block-long for-long blocks-long packed-long   lengths
--     block-data block-spare            the data and the spare bytes of a block that was made
--     use-is sum-right number-right     what it says of its use, its sum and its number
--     block-again         a right block is the block that is made of its number and its data
-- Assumes nothing.
use Rattle.std.proofs.Common.{◌≡◌, ℕ, ◌+◌, ◌-◌, ◌*◌, ◌^◌, ◌<◌, ◌≤◌, Bool, true, List, [], ◌∷◌, ◌++◌, length, get_or, take, drop, replicate, sym, refl, ap, ◌∙◌, append_assoc, arith, length-append, length-drop, take-append-drop, length-take, length-take-le, take_all, drop-drop, take_at, take-add, drop_at, ltb-true}
use lib.ListN.{length-replicate}
use Rattle.metafile.specs.Bytes.{part, all, is_zero}
use Rattle.metafile.specs.Below.{join_below}
use Rattle.laws.proofs.First.{and_both, is_zero-zero}
use Rattle.laws.proofs.Lists.{all_take, all_drop, all-at, part-long}
use Rattle.blocks.specs.Blocks.{big_endian, big_value, block_sum, before_sum, block, block_count, data_at, block_for, packed, use_of, is_byte}
use Rattle.blocks.proofs.BigEndian.{big-long, value-big, big-value}
use Rattle.blocks.proofs.Pieces.{pieces-long}
use Rattle.blocks.proofs.Faults.{use-most, Right}

-- ---- a block that was made

sum-small : (v : List ℕ) → block_sum v < 65536
unfolding block_sum
sum-small v = omega arith

module _ (i : ℕ) (v : List ℕ) (few : length v ≤ 504) where
  before-long : length (before_sum i v) ≡ 510
  unfolding before_sum
  before-long = simp (length-append, length-replicate) (omega (arith, big-long 4 i, big-long 2 (length v)))

  pub block-long : length (block i v) ≡ 512
  unfolding block
  block-long = simp length-append (omega (arith, before-long, big-long 2 (block_sum (before_sum i v))))

  block-first : take 510 (block i v) ≡ before_sum i v
  unfolding block
  block-first = take_at (before_sum i v) (big_endian 2 (block_sum (before_sum i v))) 510 before-long

  block-sum : part 510 2 (block i v) ≡ big_endian 2 (block_sum (before_sum i v))
  unfolding block
  block-sum =
      rw (drop_at (before_sum i v) (big_endian 2 (block_sum (before_sum i v))) 510 before-long)
      (take_all 2 (big_endian 2 (block_sum (before_sum i v))) (omega (arith, big-long 2 (block_sum (before_sum i v)))))

  -- number, use, data, and what is behind them
  behind : List ℕ
  behind = replicate (504 - length v) 0 ++ big_endian 2 (block_sum (before_sum i v))

  pieces : block i v ≡ big_endian 4 i ++ (big_endian 2 (length v) ++ (v ++ behind))
  unfolding block before_sum behind
  pieces = simp append_assoc

  block-number : take 4 (block i v) ≡ big_endian 4 i
  block-number = rw pieces (take_at (big_endian 4 i) _ 4 (big-long 4 i))

  block-use : part 4 2 (block i v) ≡ big_endian 2 (length v)
  block-use = rw (pieces, drop_at (big_endian 4 i) (big_endian 2 (length v) ++ (v ++ behind)) 4 (big-long 4 i)) (take_at (big_endian 2 (length v)) _ 2 (big-long 2 (length v)))

  head-long : length (big_endian 4 i ++ big_endian 2 (length v)) ≡ 6
  head-long = simp length-append (omega (arith, big-long 4 i, big-long 2 (length v)))

  pub block-data : part 6 (length v) (block i v) ≡ v
  block-data =
      rw (pieces, ← append_assoc (big_endian 4 i) (big_endian 2 (length v)) (v ++ behind), drop_at (big_endian 4 i ++ big_endian 2 (length v)) (v ++ behind) 6 head-long)
      (take_at v behind (length v) refl)

  pub block-spare : part (6 + length v) (504 - length v) (block i v) ≡ replicate (504 - length v) 0
  unfolding behind
  block-spare =
      let start : length (big_endian 4 i ++ big_endian 2 (length v) ++ v) ≡ 6 + length v = simp length-append (omega (arith, big-long 4 i, big-long 2 (length v))) in
      let apart : block i v ≡ big_endian 4 i ++ big_endian 2 (length v) ++ v ++ behind = pieces ∙ simp append_assoc in
      rw (apart, drop_at (big_endian 4 i ++ big_endian 2 (length v) ++ v) behind (6 + length v) start)
      (take_at (replicate (504 - length v) 0) _ (504 - length v) (length-replicate (504 - length v) 0))

  pub use-is : use_of (block i v) ≡ length v
  unfolding use_of
  use-is = ap big_value block-use ∙ value-big 2 (length v) (omega arith)

  pub sum-right : block_sum (take 510 (block i v)) ≡ big_value (part 510 2 (block i v))
  sum-right = ap block_sum block-first ∙ sym (ap big_value block-sum ∙ value-big 2 (block_sum (before_sum i v)) (sum-small (before_sum i v)))

  pub number-right : i < 256 ^ 4 → big_value (take 4 (block i v)) ≡ i
  number-right h = ap big_value block-number ∙ value-big 4 i h

-- ---- the blocks of a file

pub data-few : (f : List ℕ) (i : ℕ) → length (data_at f i) ≤ 504
unfolding data_at
data-few f i = simp length-take (omega arith)

pub for-long : (f : List ℕ) (i : ℕ) → length (block_for f i) ≡ 512
unfolding block_for
for-long f i = block-long i (data_at f i) (data-few f i)

pub blocks-long : (f : List ℕ) (n : ℕ) → length (join_below n (block_for f)) ≡ 512 * n
blocks-long f n = pieces-long 512 (block_for f) n (λ k l. for-long f k)

pub packed-long : (f : List ℕ) → length (packed f) ≡ 512 * block_count (length f)
unfolding packed
packed-long f = blocks-long f (block_count (length f))

-- ---- a right block, made again

pub bytes-part : (x : List ℕ) (p n : ℕ) → all is_byte x ≡ true → all is_byte (part p n x) ≡ true
bytes-part x p n h = all_take is_byte n (drop p x) (all_drop is_byte p x h)

again : (n : ℕ) (v : List ℕ) → length v ≡ n → all is_byte v ≡ true → big_endian n (big_value v) ≡ v
unfolding is_byte
again n v e h = big-value n v e (λ i l. ltb-true (get_or v i 0) 256 (all-at is_byte v i (omega arith) h))

zeros-are : (s : List ℕ) → all is_zero s ≡ true → s ≡ replicate (length s) 0
unfolding all
zeros-are [] e = refl
zeros-are (y ∷ s) e =
    let h = and_both (is_zero y) (all is_zero s) e in
    let first = is_zero-zero y h.0 in
    let others = zeros-are s h.1 in
    cc

-- number, use, data and spare bytes, one behind the other
apart : (u : ℕ) (b : List ℕ) → u ≤ 504 → take 510 b ≡ take 4 b ++ (part 4 2 b ++ (part 6 u b ++ part (6 + u) (504 - u) b))
apart u b h =
    let whole : 504 ≡ u + (504 - u) = omega arith in
    let room : take 504 (drop 6 b) ≡ part 6 u b ++ part (6 + u) (504 - u) b =
    ap (λ (n : ℕ). take n (drop 6 b)) whole ∙ take-add u (504 - u) (drop 6 b) ∙ ap (λ (t : List ℕ). part 6 u b ++ take (504 - u) t) (drop-drop u 6 b)
    in
    let rest : take 506 (drop 4 b) ≡ part 4 2 b ++ take 504 (drop 6 b) =
    take-add 2 504 (drop 4 b) ∙ ap (λ (t : List ℕ). part 4 2 b ++ take 504 t) (drop-drop 2 4 b)
    in
    take-add 4 506 b ∙ ap (λ (t : List ℕ). take 4 b ++ t) (rest ∙ ap (λ (t : List ℕ). part 4 2 b ++ t) room)

module _ {last : Bool} {i : ℕ} {b : List ℕ} (r : Right last i b) (long : length b ≡ 512) (bytes : all is_byte b ≡ true) where
  few : use_of b ≤ 504
  few = use-most i (use_of b) last r.used

  data-length : length (part 6 (use_of b) b) ≡ use_of b
  data-length = part-long b 6 (use_of b) (omega (arith, few))

  before-again : before_sum i (part 6 (use_of b) b) ≡ take 510 b
  unfolding before_sum
  before-again =
      let number : big_endian 4 i ≡ take 4 b =
      ap (big_endian 4) (sym r.numbered) ∙ again 4 (take 4 b) (length-take-le 4 b (omega arith)) (all_take is_byte 4 b bytes)
      in
      let used : big_endian 2 (use_of b) ≡ part 4 2 b = unfold use_of in again 2 (part 4 2 b) (part-long b 4 2 (omega arith)) (bytes-part b 4 2 bytes) in
      let spare : replicate (504 - use_of b) 0 ≡ part (6 + use_of b) (504 - use_of b) b =
      sym (zeros-are _ r.spare ∙ ap (λ (n : ℕ). replicate n 0) (part-long b (6 + use_of b) (504 - use_of b) (omega (arith, few))))
      in
      rw (data-length, number, used, spare) (sym (apart (use_of b) b few))

  pub block-again : block i (part 6 (use_of b) b) ≡ b
  unfolding block
  block-again =
      let sum : big_endian 2 (block_sum (take 510 b)) ≡ part 510 2 b =
      ap (big_endian 2) r.summed ∙ again 2 (part 510 2 b) (part-long b 510 2 (omega arith)) (bytes-part b 510 2 bytes)
      in
      let end : part 510 2 b ≡ drop 510 b = take_all 2 (drop 510 b) (simp length-drop (omega arith)) in
      rw (before-again, sum, end) (take-append-drop 510 b)
