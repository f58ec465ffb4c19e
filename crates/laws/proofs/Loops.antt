-- What loops over bytes need of the definitions: one byte more, one byte that differs, bytes put one by one.
--     agree-more agree-not   two lists that agree so far
--     fixed-short fixed-bad fixed-good   the answers of a comparison with a fixed text
--     part-drop              the part of a slice from a place to its end
--     put-none put-more put-all   bytes put one by one at a place of a buffer
--     placed-length placed-placed placed-start placed-over   bytes put at a place, at the start
-- Assumes nothing.
use Prim.Native.Nat.{ℕ, ◌+◌, ◌-◌, ◌≤◌, ◌<◌}
use mathlib.Core.Path.{◌≡◌, sym, ◌∙◌}
use mathlib.Core.List.{List, [], ◌∷◌, ◌++◌, append_assoc, append-nil}
use native.Mathlib.Omega.{arith}
use native.Mathlib.Nat.{le_of_eq}
use native.Mathlib.Numerals.{add-one}
use lib.ListN.{length, take, drop, get_or, set, length-append, length-take, length-drop, take-append-drop, drop_of_length-le}
use lib.Seq.{take-suc, take_all, take-length, get_or-take, take_at, drop_at, drop-drop, take-append_seam, set_split, length-take-le}
use Rattle.metafile.specs.Bytes.{same}
use Rattle.metafile.specs.Lines.{fixed, fixed_fault, fault}
use Rattle.metafile.specs.Answers.{placed}
use Rattle.laws.proofs.First.{test, require-met, require-unmet}
use Rattle.laws.proofs.Lists.{same-eq, same_refl}
use Rattle.laws.proofs.Table.{field-short, field-long}

-- ---- two lists that agree so far

pub agree-more : (a b : List ℕ) (j : ℕ) → j < length a → j < length b → take j a ≡ take j b → get_or a j 0 ≡ get_or b j 0 → take (j + 1) a ≡ take (j + 1) b
agree-more a b j ha hb e q = rw (add-one, take-suc a j 0 ha, take-suc b j 0 hb, e, q)

pub agree-not : (a b : List ℕ) (n j : ℕ) → j < n → take n a ≡ take n b → get_or a j 0 ≡ get_or b j 0
agree-not a b n j h e = sym (get_or-take n a j 0 h) ∙ rw e (get_or-take n b j 0 h)

-- ---- a fixed text

pub fixed-short : (b r : List ℕ) → length r < length b → 4 ≡ fault (fixed b) r
unfolding fault
fixed-short b r h = sym (field-short (length b) (fixed_fault b) r h)

pub fixed-good : (b r : List ℕ) → length b ≤ length r → take (length b) r ≡ b → 0 ≡ fault (fixed b) r
unfolding fault fixed_fault
fixed-good b r h e =
    sym (field-long (length b) (fixed_fault b) r h ∙ rw e (require-met (same b b) 5 (same_refl b)))

pub fixed-bad : (b r : List ℕ) (j : ℕ) → length b ≤ length r → j < length b → (get_or r j 0 ≡ get_or b j 0 → ⊥) → 5 ≡ fault (fixed b) r
unfolding fault fixed_fault
fixed-bad b r j h l n =
    sym
    (field-long (length b) (fixed_fault b) r h
    ∙ test (same (take (length b) r) b)
    (λ e. absurd (n (agree-not r b (length b) j l (same-eq (take (length b) r) b e ∙ sym (take-length b)))))
    (λ e. require-unmet _ 5 e))

-- ---- parts of slices, as calls get them

pub part-drop : (s : List ℕ) (p : ℕ) → take (length s - p) (drop p s) ≡ drop p s
part-drop s p = take_all (length s - p) (drop p s) (le_of_eq (length-drop p s))

-- ---- bytes at a place of a buffer

pub placed-length : (p : ℕ) (v b : List ℕ) → p + length v ≤ length b → length (placed p v b) ≡ length b
unfolding placed
placed-length p v b h = simp (length-append, length-take, length-drop) (omega arith)

-- bytes put behind bytes that were put
pub placed-placed : (p : ℕ) (v w b : List ℕ) → p + length v + length w ≤ length b → placed (p + length v) w (placed p v b) ≡ placed p (v ++ w) b
unfolding placed
placed-placed p v w b h =
    let lp : length (take p b) ≡ p = length-take-le p b (omega arith) in
    let sums : p + length v + length w ≡ p + (length v + length w) = omega arith in
    let front : take (p + length v) (take p b ++ (v ++ drop (p + length v) b)) ≡ take p b ++ v =
    rw (← append_assoc (take p b) v (drop (p + length v) b)) (take_at (take p b ++ v) (drop (p + length v) b) (p + length v) (simp length-append (omega arith))) in
    let back : drop (p + length v + length w) (take p b ++ (v ++ drop (p + length v) b)) ≡ drop (p + length (v ++ w)) b =
    rw (← append_assoc (take p b) v (drop (p + length v) b), ← drop-drop (length w) (p + length v) (take p b ++ v ++ drop (p + length v) b), drop_at (take p b ++ v) (drop (p + length v) b) (p + length v) (simp length-append (omega arith)), drop-drop (length w) (p + length v) b, length-append v w, sums) in
    rw (front, back) (simp append_assoc)

pub placed-nothing : (p : ℕ) (b : List ℕ) → placed p [] b ≡ b
unfolding placed
placed-nothing p b =
    let z : p + 0 ≡ p = omega arith in
    rw z (take-append-drop p b)

-- at the start of a buffer: the first bytes, and a buffer of just as many bytes
pub placed-start : (v buffer : List ℕ) → take (length v) (placed 0 v buffer) ≡ v
unfolding placed
placed-start v buffer = take-append_seam v (drop (0 + length v) buffer)

pub placed-over : (v buffer : List ℕ) → length v ≡ length buffer → placed 0 v buffer ≡ v
unfolding placed
placed-over v buffer e =
    let none : drop (0 + length v) buffer ≡ [] = drop_of_length-le buffer {i = 0 + length v} (omega arith) in
    rw (none, append-nil)

placed_one : (q x : ℕ) (c : List ℕ) → q < length c → placed q (x ∷ []) c ≡ set c q x
unfolding placed
placed_one q x c g = rw (set_split c q x g, ← add-one q)

-- one byte more of v, put at p + j, where the first j bytes of v are there
pub put-more : (p j : ℕ) (v b : List ℕ) → p + length v ≤ length b → j < length v → set (placed p (take j v) b) (p + j) (get_or v j 0) ≡ placed p (take (j + 1) v) b
put-more p j v b h l =
    let lj : length (take j v) ≡ j = length-take-le j v (omega arith) in
    let room : p + j < length (placed p (take j v) b) = rw (placed-length p (take j v) b (omega arith)) (omega arith) in
    let more : placed (p + j) (get_or v j 0 ∷ []) (placed p (take j v) b) ≡ placed p (take j v ++ (get_or v j 0 ∷ [])) b =
    rw lj at (placed-placed p (take j v) (get_or v j 0 ∷ []) b (omega arith)) in
    sym (placed_one (p + j) (get_or v j 0) (placed p (take j v) b) room) ∙ more ∙ rw (add-one, take-suc v j 0 l)
