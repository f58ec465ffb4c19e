-- Laws of the sum of bytes ("added byte by byte, modulo 256"): it is below 256, the sum of two runs in a row comes from
-- the sums of the two, and one byte more is added to the sum of those before it.
--     total-append   the same before the remainder is taken: total (s ++ t) ≡ total s + total t
--     sum_below      sum s < 256
--     sum-append     sum (s ++ t) ≡ (sum s + sum t) % 256
--     sum-none       the sum of no bytes is 0; sum-empty the same of a run without bytes
--     sum_more       sum (take (i + 1) s) from sum (take i s) and the byte at i
--     sum-whole      the bytes before the end are all the bytes
--     sum_added      the sums of two runs, added modulo 256
--     total_first    the first of the bytes from a place on, and those after it
--     total-part     the bytes before a place, and those from there to a later one
--     halves-next    a part more of two halves of a run
--     halves-whole   two halves, a part after them and the rest are all the bytes
-- Assumes nothing.
use Rattle.std.proofs.Common.{◌≡◌, ℕ, ◌+◌, ◌-◌, ◌*◌, ◌%◌, ◌<◌, ◌≤◌, List, [], ◌∷◌, ◌++◌, length, get_or, take, drop, sym, refl, ap, ◌∙◌, add-zero, add-one, arith, take-append-drop, get_or-drop, take_all, take-suc, drop-drop, take-add}
use Rattle.metafile.specs.Bytes.{total, sum}

pub total-append : (s t : List ℕ) → total (s ++ t) ≡ total s + total t
unfolding total
total-append [] t = omega arith
total-append (x ∷ s) t = omega (arith, total-append s t)

pub sum_below : (s : List ℕ) → sum s < 256
unfolding sum
sum_below s = omega arith

pub sum-append : (s t : List ℕ) → sum (s ++ t) ≡ (sum s + sum t) % 256
unfolding sum
sum-append s t = omega (arith, total-append s t)

pub sum-none : (s : List ℕ) → 0 ≡ sum (take 0 s)
unfolding sum total
sum-none s = refl

pub sum-empty : (s : List ℕ) → length s ≡ 0 → 0 ≡ sum s
unfolding sum total
sum-empty [] h = refl
sum-empty (x ∷ s) h = omega arith

pub sum_more : (s : List ℕ) (i a r : ℕ) → i < length s → a ≡ sum (take i s) → r ≡ (a + get_or s i 0) % 256 → r ≡ sum (take (i + 1) s)
unfolding sum total
sum_more s i a r h e q = rw (add-one, take-suc s i 0 h) (omega (arith, total-append (take i s) (get_or s i 0 ∷ [])))

pub sum-whole : (s : List ℕ) (i a : ℕ) → length s ≤ i → a ≡ sum (take i s) → a ≡ sum s
sum-whole s i a h e = rw (take_all i s h) at e

-- x and y are what two runs add up to, before the remainder is taken
pub sum_added : (x y a b r : ℕ) → a ≡ x % 256 → b ≡ y % 256 → r ≡ (a + b) % 256 → r ≡ (x + y) % 256
sum_added x y a b r p q h = omega arith

-- past the end both sides are 0
total_head : (s : List ℕ) → total s ≡ get_or s 0 0 + total (drop 1 s)
unfolding total
total_head [] = refl
total_head (x ∷ s) = refl

pub total_first : (s : List ℕ) (i : ℕ) → total (drop i s) ≡ get_or s i 0 + total (drop (i + 1) s)
total_first s i = total_head (drop i s) ∙ rw (get_or-drop, add-zero i, drop-drop 1 i s)

pub total-part : (s : List ℕ) (a e : ℕ) → a ≤ e → total (take e s) ≡ total (take a s) + total (take (e - a) (drop a s))
total-part s a e h =
    let whole : e ≡ a + (e - a) = omega arith in
    ap (λ (n : ℕ). total (take n s)) whole ∙ ap total (take-add a (e - a) s) ∙ total-append (take a s) (take (e - a) (drop a s))

-- the second half begins at the place `half`; the part is from `at` to e in both
pub halves-next : (s : List ℕ) (half at e l m : ℕ) → at ≤ e → l ≡ e - at → m ≡ e - at
    → total (take at s) + total (take at (drop half s)) + (total (take l (drop at s)) + total (take m (drop (half + at) s)))
    ≡ total (take e s) + total (take e (drop half s))
halves-next s half at e l m h p q =
    rw (p, q, ← drop-drop at half s) (omega (arith, total-part s at e h, total-part (drop half s) at e h))

pub halves-whole : (s : List ℕ) (half words l : ℕ) → half * 2 ≤ words → length (drop words s) ≤ l
    → total (take half s) + total (take half (drop half s)) + total (take (words - half * 2) (drop (half * 2) s)) + total (take l (drop words s)) ≡ total s
halves-whole s half words l h k =
    let again : half * 2 - half ≡ half = omega arith in
    let both : total (take (half * 2) s) ≡ total (take half s) + total (take half (drop half s)) =
    rw again at (total-part s half (half * 2) (omega arith))
    in
    let rest : total s ≡ total (take words s) + total (drop words s) =
    ap total (sym (take-append-drop words s)) ∙ total-append (take words s) (drop words s)
    in
    rw (take_all l (drop words s) k) (omega (arith, both, rest, total-part s (half * 2) words h))
