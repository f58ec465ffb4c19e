-- Big-endian numbers, and the sum of a block.
--     big-long            a number in n bytes has n bytes
--     value-big big-value what a number in n bytes stands for, and the bytes of what n bytes stand for
--     value-more value-small   one byte more; bytes stand for a number below 256 ^ n
--     big-put big-none    the last byte put before the others
--     sum_more            the sum with one byte more
-- Assumes nothing.
use Rattle.std.proofs.Common.{◌≡◌, ℕ, zero, suc, ◌+◌, ◌-◌, ◌*◌, ◌/◌, ◌%◌, ◌^◌, ◌<◌, ◌≤◌, List, [], ◌∷◌, ◌++◌, length, get_or, take, set, sym, refl, ap, ◌∙◌, pow-suc, add-one, arith, length-append, length-take-le, take_all, get_or-take, take-suc}
use native.Mathlib.Nat.{pow-le-pow_right}
use Rattle.metafile.specs.Bytes.{total}
use Rattle.metafile.specs.Answers.{placed}
use Rattle.laws.proofs.Loops.{placed-nothing}
use Rattle.sums.proofs.Laws.{total-append}
use Rattle.lines.proofs.Puts.{last-put}
use Rattle.blocks.specs.Blocks.{big_endian, big_value_from, big_value, block_sum}

pub big-long : (n x : ℕ) → length (big_endian n x) ≡ n
unfolding big_endian
big-long zero x = refl
big-long (suc n) x = simp length-append (omega (arith, big-long n (x / 256)))

from-append : (acc : ℕ) (v w : List ℕ) → big_value_from acc (v ++ w) ≡ big_value_from (big_value_from acc v) w
unfolding big_value_from
from-append acc [] w = refl
from-append acc (x ∷ v) w = from-append (acc * 256 + x) v w

value-last : (v : List ℕ) (x : ℕ) → big_value (v ++ x ∷ []) ≡ big_value v * 256 + x
unfolding big_value big_value_from
value-last v x = from-append 0 v (x ∷ [])

pub value_none : big_value [] ≡ 0
unfolding big_value big_value_from
value_none = refl

pub value-more : (v : List ℕ) (i : ℕ) → i < length v → big_value (take (i + 1) v) ≡ big_value (take i v) * 256 + get_or v i 0
value-more v i h = rw (add-one i, take-suc v i 0 h) (value-last (take i v) (get_or v i 0))

-- a number of up to three bytes leaves room for one more
pub value-small : (i x : ℕ) → i < 4 → x < 256 ^ i → x < 16777216
value-small i x h l = omega (arith, pow-le-pow_right {n = 256} (omega arith) {i = i} {j = 3} (omega arith))

pub value_grows : (i x b : ℕ) → x < 256 ^ i → b < 256 → x * 256 + b < 256 ^ (i + 1)
value_grows i x b l s = rw (add-one i, pow-suc 256 i) (omega arith)

pub value-big : (n x : ℕ) → x < 256 ^ n → big_value (big_endian n x) ≡ x
unfolding big_endian
value-big zero x h = rw value_none (omega arith)
value-big (suc n) x h =
    let ih = value-big n (x / 256) (omega arith) in
    rw (value-last (big_endian n (x / 256)) (x % 256), ih) (omega arith)

pub big-value : (n : ℕ) (v : List ℕ) → length v ≡ n → ((i : ℕ) → i < n → get_or v i 0 < 256) → big_endian n (big_value v) ≡ v
unfolding big_endian
big-value zero [] e h = refl
big-value zero (x ∷ v) e h = absurd (omega arith)
big-value (suc n) v e h =
    let whole : v ≡ take n v ++ get_or v n 0 ∷ [] = sym (take_all (suc n) v (omega arith)) ∙ take-suc v n 0 (omega arith) in
    let before : big_endian n (big_value (take n v)) ≡ take n v =
    big-value n (take n v) (length-take-le n v (omega arith)) (λ i l. rw (get_or-take n v i 0 l) (h i (omega arith)))
    in
    let value : big_value v ≡ big_value (take n v) * 256 + get_or v n 0 = ap big_value whole ∙ value-last (take n v) (get_or v n 0) in
    let least = h n (omega arith) in
    let high : big_value v / 256 ≡ big_value (take n v) = omega arith in
    let low : big_value v % 256 ≡ get_or v n 0 = omega arith in
    rw (high, low, before) (sym whole)

-- ---- put into a buffer

pub big-put : (p k x : ℕ) (b : List ℕ) → 0 < k → p + k ≤ length b → placed p (big_endian k x) b ≡ placed p (big_endian (k - 1) (x / 256)) (set b (p + (k - 1)) (x % 256))
unfolding big_endian
big-put p zero x b z h = absurd (omega arith)
big-put p (suc k) x b z h =
    let one : suc k - 1 ≡ k = omega arith in
    rw one (last-put p k (x % 256) (big_endian k (x / 256)) b (big-long k (x / 256)) (omega arith))

pub big-none : (p k x : ℕ) (b : List ℕ) → k ≡ 0 → placed p (big_endian k x) b ≡ b
unfolding big_endian
big-none p k x b e = rw e (placed-nothing p b)

-- ---- the sum

pub sum-none : (s : List ℕ) → 0 ≡ block_sum (take 0 s)
unfolding block_sum total
sum-none s = refl

pub sum_more : (s : List ℕ) (i a r : ℕ) → i < length s → a ≡ block_sum (take i s) → r ≡ (a + get_or s i 0) % 65536 → r ≡ block_sum (take (i + 1) s)
unfolding block_sum total
sum_more s i a r h e q = rw (add-one, take-suc s i 0 h) (omega (arith, total-append (take i s) (get_or s i 0 ∷ [])))
