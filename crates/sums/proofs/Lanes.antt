-- Why sums of words give the sum of their bytes. A word is its even bytes, in four lanes of 16 bits, and its odd bytes, in
-- four lanes a byte higher. Lanes are added without a carry as long as each stays below 65,536. So after at most 128 words
-- the sum of the words less that of the even bytes is that of the odd bytes, 256 times and modulo 2 ^ 64: of the highest
-- lane 8 bits are left, which is enough for a sum modulo 256. Even and odd bytes are put into the same lanes, at most
-- 128 * 510 each, and the lanes are taken apart and added.
--     word-halves   two halves of four bytes are a word
--     words-none    no words
--     words-one     one word of eight bytes
--     words-next    one word more
--     words-most    more words are allowed
--     words_same    other names for the count of words and for what their bytes add up to
--     words-room    the lanes of at most 128 words are below 2 ^ 63; words-fit so they fit a word
--     words-fold    they give the sum of the bytes
--     words-alone   one word, where 128 are allowed
-- Assumes nothing.
use Rattle.std.proofs.Common.{◌≡◌, ℕ, ◌+◌, ◌*◌, ◌/◌, ◌%◌, ◌^◌, ◌<◌, ◌≤◌, List, [], ◌∷◌, length, get_or, take, drop, sym, refl, ap, ◌∙◌, lt_of_lt_of_le, add-zero, mod-eq_of_lt, arith, lit<, lit≤, get_or-drop, get_or-take, drop-drop, w64, Fits}
use lib.Seq.{drop-length}
use Rattle.metafile.specs.Bytes.{total}
use Rattle.sums.specs.Lanes.{word_of, half_of, lanes, evens_of, Lanes, Words}
use Rattle.sums.proofs.Laws.{total_first}

-- ---- numbers: each law has few of them, so that omega has little in reach

-- a lane off a number, and the rest of it
lane_low : (a r w : ℕ) → a < 65536 → w ≡ a + r * 65536 → w % 65536 ≡ a
lane_low a r w h q = omega arith

lane-rest : (a r w : ℕ) → a < 65536 → w ≡ a + r * 65536 → w / 65536 ≡ r
lane-rest a r w h q = omega arith

-- the lane's even byte
lane-even : (a b r w : ℕ) → a < 256 → w ≡ a + b * 256 + r * 65536 → w % 256 ≡ a
lane-even a b r w h q = omega arith

two_lanes : (w : ℕ) → w / 4294967296 ≡ w / 65536 / 65536
two_lanes w = omega arith

three-lanes : (w : ℕ) → w / 281474976710656 ≡ w / 4294967296 / 65536
three-lanes w = omega arith

-- what is left of the words' sum, and of that the odd bytes
left-of : (t e d x : ℕ) → d < 2 ^ 64 → (d + e) % 2 ^ 64 ≡ t → t ≡ (e + x) % 2 ^ 64 → d ≡ x % 2 ^ 64
left-of t e d x h p q = omega arith

odd-left : (l h : ℕ) → l < 281474976710656 → 256 * (l + h * 281474976710656) % 2 ^ 64 / 256 ≡ l + h % 256 * 281474976710656
odd-left l h k = omega arith

in_lane : (a b n : ℕ) → a ≤ 255 * n → b ≤ 255 * n → n ≤ 128 → a + b < 65536
in_lane a b n p q h = omega arith

added : (s x y a b c d e f g h : ℕ) → s ≡ x + y → x ≡ a + b + c + d → y ≡ e + f + g + h → (a + e + (b + f) + (c + g) + (d + h % 256)) % 256 ≡ s % 256
added s x y a b c d e f g h q p r = omega arith

-- four lanes, the highest of any size, taken apart
apart : (a b c d p : ℕ) → a < 65536 → b < 65536 → c < 65536 → p ≡ lanes a b c d
    → p % 65536 + p / 65536 % 65536 + p / 4294967296 % 65536 + p / 281474976710656 ≡ a + b + c + d
apart a b c d p ha hb hc q =
    let second : p / 65536 ≡ b + (c + d * 65536) * 65536 = lane-rest a (b + (c + d * 65536) * 65536) p ha (omega (arith, q)) in
    let third : p / 4294967296 ≡ c + d * 65536 = two_lanes p ∙ lane-rest b (c + d * 65536) (p / 65536) hb second in
    let fourth : p / 281474976710656 ≡ d = three-lanes p ∙ lane-rest c d (p / 4294967296) hc third in
    let p0 : p % 65536 ≡ a = lane_low a (b + (c + d * 65536) * 65536) p ha (omega (arith, q)) in
    let p1 : p / 65536 % 65536 ≡ b = lane_low b (c + d * 65536) (p / 65536) hb second in
    let p2 : p / 4294967296 % 65536 ≡ c = lane_low c d (p / 4294967296) hc third in
    rw (p0, p1, p2, fourth)

-- ---- the bytes of a word

-- past the end both sides are 0
word-head : (s : List ℕ) → word_of s ≡ get_or s 0 0 + 256 * word_of (drop 1 s)
unfolding word_of
word-head [] = refl
word-head (x ∷ s) = refl

word_first : (s : List ℕ) (i : ℕ) → word_of (drop i s) ≡ get_or s i 0 + 256 * word_of (drop (i + 1) s)
word_first s i = word-head (drop i s) ∙ rw (get_or-drop, add-zero i, drop-drop 1 i s)

in-half : (s : List ℕ) (a i : ℕ) → i < 4 → get_or (take 4 (drop a s)) i 0 ≡ get_or s (a + i) 0
in-half s a i h = rw (get_or-take, get_or-drop)

module _ (s : List ℕ) (long : length s ≡ 8) where
  word_end : word_of (drop 8 s) ≡ 0
  unfolding word_of
  word_end = ap word_of (rw long at (drop-length s))

  total-end : total (drop 8 s) ≡ 0
  unfolding total
  total-end = ap total (rw long at (drop-length s))

  pub word-halves : half_of (take 4 (drop 0 s)) + half_of (take 4 (drop 4 s)) * 4294967296 ≡ word_of s
  word-halves =
      let at : (a i : ℕ) → i < 4 → get_or (take 4 (drop a s)) i 0 ≡ get_or s (a + i) 0 = in-half s in
      let f : (i : ℕ) → word_of (drop i s) ≡ get_or s i 0 + 256 * word_of (drop (i + 1) s) = word_first s in
      omega
      (arith, at 0 0 (lit< tt), at 0 1 (lit< tt), at 0 2 (lit< tt), at 0 3 (lit< tt), at 4 0 (lit< tt), at 4 1 (lit< tt), at 4 2 (lit< tt), at 4 3 (lit< tt), f 0, f 1, f 2, f 3, f 4, f 5, f 6, f 7, word_end)

  total-eight : total s ≡ get_or s 0 0 + get_or s 2 0 + get_or s 4 0 + get_or s 6 0 + (get_or s 1 0 + get_or s 3 0 + get_or s 5 0 + get_or s 7 0)
  total-eight =
      let f : (i : ℕ) → total (drop i s) ≡ get_or s i 0 + total (drop (i + 1) s) = total_first s in
      omega (arith, f 0, f 1, f 2, f 3, f 4, f 5, f 6, f 7, total-end)

  module _ (byte : (i : ℕ) → get_or s i 0 < 256) where
    -- two bytes more of the word: a lane
    pair : (i : ℕ) → word_of (drop i s) ≡ get_or s i 0 + get_or s (i + 1) 0 * 256 + word_of (drop (i + 1 + 1) s) * 65536
    pair i = omega (arith, word_first s i, word_first s (i + 1))

    pair-rest : (i : ℕ) → word_of (drop i s) / 65536 ≡ word_of (drop (i + 1 + 1) s)
    pair-rest i = lane-rest (get_or s i 0 + get_or s (i + 1) 0 * 256) _ _ (omega (arith, byte i, byte (i + 1))) (pair i)

    pair-even : (i : ℕ) → word_of (drop i s) % 256 ≡ get_or s i 0
    pair-even i = lane-even _ _ _ _ (byte i) (pair i)

    word-evens : evens_of (word_of s) ≡ lanes (get_or s 0 0) (get_or s 2 0) (get_or s 4 0) (get_or s 6 0)
    word-evens =
        let r2 : word_of s / 65536 ≡ word_of (drop 2 s) = pair-rest 0 in
        let r4 : word_of s / 4294967296 ≡ word_of (drop 4 s) = two_lanes (word_of s) ∙ ap (λ (w : ℕ). w / 65536) r2 ∙ pair-rest 2 in
        let r6 : word_of s / 281474976710656 ≡ word_of (drop 6 s) = three-lanes (word_of s) ∙ ap (λ (w : ℕ). w / 65536) r4 ∙ pair-rest 4 in
        let e0 : word_of s % 256 ≡ get_or s 0 0 = pair-even 0 in
        rw (r2, r4, r6, e0, pair-even 2, pair-even 4, pair-even 6)

    word-whole : word_of s ≡ lanes (get_or s 0 0) (get_or s 2 0) (get_or s 4 0) (get_or s 6 0) + 256 * lanes (get_or s 1 0) (get_or s 3 0) (get_or s 5 0) (get_or s 7 0)
    word-whole = omega (arith, pair 0, pair 2, pair 4, pair 6, word_end)

-- ---- lanes

lanes-of : {n v s : ℕ} (a b c d : ℕ) → a ≤ 255 * n → b ≤ 255 * n → c ≤ 255 * n → d ≤ 255 * n → v ≡ lanes a b c d → s ≡ a + b + c + d → Lanes n v s
lanes-of a b c d ha hb hc hd q r =
    record { a = a; b = b; c = c; d = d; a-most = ha; b-most = hb; c-most = hc; d-most = hd; number = q; adds = r }

lanes-none : Lanes 0 0 0
lanes-none = lanes-of 0 0 0 0 (lit≤ tt) (lit≤ tt) (lit≤ tt) (lit≤ tt) refl refl

lanes-add : {n m v w s r : ℕ} → Lanes n v s → Lanes m w r → Lanes (n + m) (v + w) (s + r)
lanes-add x y =
    lanes-of (x.a + y.a) (x.b + y.b) (x.c + y.c) (x.d + y.d) (omega arith) (omega arith) (omega arith) (omega arith) (omega arith) (omega arith)

lanes-most : {n v s : ℕ} → Lanes n v s → (m : ℕ) → n ≤ m → Lanes m v s
lanes-most x m h = lanes-of x.a x.b x.c x.d (omega arith) (omega arith) (omega arith) (omega arith) x.number x.adds

lanes-room : {n v s : ℕ} → Lanes n v s → n ≤ 128 → v < 2 ^ 63
lanes-room x h = omega arith

-- ---- words

all-added : (t₁ t₂ e₁ e₂ o₁ o₂ t : ℕ) → t₁ ≡ (e₁ + 256 * o₁) % 2 ^ 64 → t₂ ≡ (e₂ + 256 * o₂) % 2 ^ 64 → t ≡ (t₁ + t₂) % 2 ^ 64
    → t ≡ (e₁ + e₂ + 256 * (o₁ + o₂)) % 2 ^ 64
all-added t₁ t₂ e₁ e₂ o₁ o₂ t p q r = omega arith

pub words-none : Words 0 0 0 0
words-none = record { odd = 0; even_sum = 0; odd-sum = 0; evens = lanes-none; odds = lanes-none; words = refl; adds = refl }

pub words-one : (s : List ℕ) → length s ≡ 8 → ((i : ℕ) → get_or s i 0 < 256) → Words 1 (word_of s) (evens_of (word_of s)) (total s)
words-one s long byte =
    let at : ℕ → ℕ = λ i. get_or s i 0 in
    let most : (i : ℕ) → get_or s i 0 ≤ 255 * 1 = λ i. omega (arith, byte i) in
    let odd : ℕ = lanes (at 1) (at 3) (at 5) (at 7) in
    let whole : evens_of (word_of s) + 256 * odd ≡ word_of s = ap (λ (e : ℕ). e + 256 * odd) (word-evens s long byte) ∙ sym (word-whole s long byte) in
    let fits : word_of s < 2 ^ 64 =
    rw (word-whole s long byte) (omega (arith, byte 0, byte 1, byte 2, byte 3, byte 4, byte 5, byte 6, byte 7))
    in
    record {
      odd = odd;
      even_sum = at 0 + at 2 + at 4 + at 6;
      odd-sum = at 1 + at 3 + at 5 + at 7;
      evens = lanes-of (at 0) (at 2) (at 4) (at 6) (most 0) (most 2) (most 4) (most 6) (word-evens s long byte) refl;
      odds = lanes-of (at 1) (at 3) (at 5) (at 7) (most 1) (most 3) (most 5) (most 7) refl refl;
      words = rw whole (sym (mod-eq_of_lt fits));
      adds = total-eight s long;
    }

module _ {n all even s : ℕ} (x : Words n all even s) where
  -- r is the word's even bytes as the code has them, t the sum with the word
  pub words-next : {w b r t : ℕ} → Words 1 w (evens_of w) b → r ≡ evens_of w → t ≡ (all + w) % 2 ^ 64 → Words (n + 1) t (even + r) (s + b)
  words-next {w} {b} {r} {t} y q p =
      rw q
      (record {
        odd = x.odd + y.odd;
        even_sum = x.even_sum + y.even_sum;
        odd-sum = x.odd-sum + y.odd-sum;
        evens = lanes-add x.evens y.evens;
        odds = lanes-add x.odds y.odds;
        words = all-added all w even (evens_of w) x.odd y.odd t x.words y.words p;
        adds = omega (arith, x.adds, y.adds);
      })

  pub words-most : (m : ℕ) → n ≤ m → Words m all even s
  words-most m h =
      record {
        odd = x.odd;
        even_sum = x.even_sum;
        odd-sum = x.odd-sum;
        evens = lanes-most x.evens m h;
        odds = lanes-most x.odds m h;
        words = x.words;
        adds = x.adds;
      }

  pub words_same : {m r : ℕ} → n ≡ m → s ≡ r → Words m all even r
  words_same p q = rw (← p, ← q) x

  pub words-room : n ≤ 128 → even < 2 ^ 63
  words-room h = lanes-room x.evens h

  pub words-fit : n ≤ 128 → Fits w64 even
  words-fit h = record { fits = lt_of_lt_of_le (words-room h) (lit≤ tt) }

  -- d is what the even bytes leave of the words, p the lanes of both
  pub words-fold : n ≤ 128 → (d p : ℕ) → d < 2 ^ 64 → (d + even) % 2 ^ 64 ≡ all → p ≡ even + d / 256
      → (p % 65536 + p / 65536 % 65536 + p / 4294967296 % 65536 + p / 281474976710656) % 256 ≡ s % 256
  words-fold h d p small left is =
      let v = x.evens in
      let u = x.odds in
      let top : d / 256 ≡ lanes u.a u.b u.c (u.d % 256) =
      ap (λ (z : ℕ). z / 256) (left-of all even d (256 * x.odd) small left x.words ∙ ap (λ (z : ℕ). 256 * z % 2 ^ 64) u.number)
      ∙ odd-left (u.a + u.b * 65536 + u.c * 4294967296) u.d (omega (arith, u.a-most, u.b-most, u.c-most, h))
      in
      let both : p ≡ lanes (v.a + u.a) (v.b + u.b) (v.c + u.c) (v.d + u.d % 256) = omega (arith, is, v.number, top) in
      ap (λ (z : ℕ). z % 256)
      (apart (v.a + u.a) (v.b + u.b) (v.c + u.c) (v.d + u.d % 256) p (in_lane _ _ n v.a-most u.a-most h) (in_lane _ _ n v.b-most u.b-most h) (in_lane _ _ n v.c-most u.c-most h) both)
      ∙ added s x.even_sum x.odd-sum v.a v.b v.c v.d u.a u.b u.c u.d x.adds v.adds u.adds

pub words-alone : {w s r : ℕ} → Words 1 w (evens_of w) s → r ≡ evens_of w → Words 128 w r s
words-alone x q = rw q (words-most x 128 (lit≤ tt))
