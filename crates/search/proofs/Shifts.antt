-- Laws of the search by shifts (specs/Shifts), for the functions of src/horspool.rt. If the mark stood d bytes on from here,
-- with d at least 1, the byte at any place j under it would be the mark's byte j - d; so where the shift of that byte is
-- larger than d and what is behind j, the mark doesn't stand there (moved-not). For j the last place this is the shift by the
-- last byte, for j the first that differs the other one; both are safe, so the larger is.
--     shift-..     bounds of a shift; bytes that the mark has and has not
--     made-..      a table of shifts, made byte by byte
--     common-..    first bytes that agree; agreed-.. counted one by one and several at once
--     ahead-..     how far on the mark can stand: bounds, and that it doesn't stand before
--     further-..   on to the mark's first byte
--     step-..      the step from a place that is tried to the next
--     tries-..     the count: one more for each place tried; counted-.. up to a place
--     sought-..    what the loop knows at a place, and answers
--     few          in data without a byte of the mark, at most one place for each whole length of the mark
--     rest-..      the mark in a text and a tail, from what was found in the text
-- Assumes nothing.
use Prim.Native.Nat.{ℕ, zero, suc, ◌+◌, ◌-◌, ◌*◌, ◌≤◌, ◌<◌, max}
use mathlib.Core.Bool.{Bool, true, false, cond, not, ◌||◌}
use mathlib.Core.Path.{◌≡◌, refl, sym, ap, ◌∙◌}
use mathlib.Core.List.{List, [], ◌∷◌, ◌++◌, append-nil}
use native.Mathlib.Nat.{zero-add, add-mul, one-mul}
use native.Mathlib.Numerals.{add-one}
use native.Mathlib.Omega.{arith}
use lib.Dec.{eqb, ltb, eqb-suc-suc}
use lib.ListN.{length, take, drop, get_or, set, replicate, length-append, length-drop, get_or-replicate}
use lib.Seq.{drop-cons, drop-append-le, drop-drop, get_or-drop, get_or-take, get_or-set_same, get_or-set_other}
use borrow.Author.Tests.{eqb-true, eqb-false, eq-eqb, ne_eqb, le-leb, lt-leb, ltb-true, ltb-false, not-true}
use Rattle.metafile.specs.Bytes.{same, starts, find}
use Rattle.laws.proofs.First.{test, untrue, or-false, and_both}
use Rattle.laws.proofs.Lists.{same-eq, all_drop, all-at, starts-local, starts-fits, find-local, find-least, find-fits}
use Rattle.laws.proofs.Loops.{part-drop}
use Rattle.search.specs.Shifts.{shift_from, shift_of, ShiftsOf, common_of, last_of, ahead, further_from, step_of, tries, is_in, without}
use Rattle.search.proofs.Laws.{Passed, passed_none, passed-more, passed_here, passed-byte, starts-short, in-at}

-- ---- the table

shift-some : (x : ℕ) (m : List ℕ) (k : ℕ) → 1 ≤ k → 1 ≤ shift_from x m k
unfolding shift_from
shift-some x [] k h = h
shift-some x (y ∷ []) k h = h
shift-some x (y ∷ z ∷ ys) k h =
    test (eqb y x)
    (λ q. rw q (shift-some x (z ∷ ys) (length (z ∷ ys)) (omega arith)))
    (λ q. rw q (shift-some x (z ∷ ys) k h))

shift-most : (x : ℕ) (m : List ℕ) (k b : ℕ) → k ≤ b → length m ≤ b → shift_from x m k ≤ b
unfolding shift_from
shift-most x [] k b h l = h
shift-most x (y ∷ []) k b h l = h
shift-most x (y ∷ z ∷ ys) k b h l =
    test (eqb y x)
    (λ q. rw q (shift-most x (z ∷ ys) (length (z ∷ ys)) b (omega arith) (omega arith)))
    (λ q. rw q (shift-most x (z ∷ ys) k b h (omega arith)))

pub shift-within : (m : List ℕ) (x : ℕ) → 0 < length m → (1 ≤ shift_of m x) × (shift_of m x ≤ length m)
unfolding shift_of
shift-within m x l = (shift-some x m (length m) l, shift-most x m (length m) (length m) (omega arith) (omega arith))

-- a byte of the mark but its last: no further than from there to the last
shift-at : (x : ℕ) (m : List ℕ) (i k : ℕ) → i + 1 < length m → get_or m i 0 ≡ x → shift_from x m k ≤ length m - 1 - i
unfolding shift_from
shift-at x [] i k l e = absurd (omega arith)
shift-at x (y ∷ []) i k l e = absurd (omega arith)
shift-at x (y ∷ z ∷ ys) zero k l e =
    rw (eq-eqb y x e) (omega (arith, shift-most x (z ∷ ys) (length (z ∷ ys)) (length (z ∷ ys)) (omega arith) (omega arith)))
shift-at x (y ∷ z ∷ ys) (suc i) k l e =
    omega (arith, shift-at x (z ∷ ys) i (cond (eqb y x) (length (z ∷ ys)) k) (omega arith) e)

shift_none : (x : ℕ) (m : List ℕ) (k : ℕ) → is_in x m ≡ false → shift_from x m k ≡ k
unfolding shift_from is_in
shift_none x [] k h = refl
shift_none x (y ∷ []) k h = refl
shift_none x (y ∷ z ∷ ys) k h =
    let q = or-false (eqb y x) (is_in x (z ∷ ys)) h in
    rw q.0 (shift_none x (z ∷ ys) k q.1)

-- the table after i bytes of the mark: what is left of it makes the shifts
abbrev pub Made : List ℕ → ℕ → List ℕ → Type 0
Made m i table = (x : ℕ) → x < 256 → shift_from x (drop i m) (get_or table x 0) ≡ shift_of m x

pub made_none : (m : List ℕ) → Made m 0 (replicate 256 (length m))
unfolding shift_of
made_none m x l = rw (get_or-replicate 256 x (length m) 0 l)

-- the entry of one byte put into the table
entry-is : (table : List ℕ) (x y n : ℕ) → length table ≡ 256 → y < 256 → cond (eqb y x) n (get_or table x 0) ≡ get_or (set table y n) x 0
entry-is table x y n l h =
    test (eqb y x)
    (λ q. rw q (rw (eqb-true y x q) (sym (get_or-set_same table x n 0 (omega (arith, eqb-true y x q))))))
    (λ q. rw q (sym (get_or-set_other table y x n 0 (λ e. eqb-false y x q (sym e)))))

shift-next : (m : List ℕ) (i x k : ℕ) → i + 1 < length m
    → shift_from x (drop i m) k ≡ shift_from x (drop (i + 1) m) (cond (eqb (get_or m i 0) x) (length m - 1 - i) k)
unfolding shift_from
shift-next m i x k l =
    let n : suc (length (drop (suc (suc i)) m)) ≡ length m - 1 - i = omega (arith, length-drop (suc (suc i)) m) in
    rw (add-one i, drop-cons m i 0 (omega arith), drop-cons m (suc i) 0 (omega arith), ← n)

pub made-next : (m : List ℕ) (i : ℕ) (table : List ℕ) → i + 1 < length m → length table ≡ 256 → get_or m i 0 < 256 → Made m i table
    → Made m (i + 1) (set table (get_or m i 0) (length m - 1 - i))
made-next m i table l n b h x k =
    ap (λ (v : ℕ). shift_from x (drop (i + 1) m) v) (sym (entry-is table x (get_or m i 0) (length m - 1 - i) n b))
    ∙ sym (shift-next m i x (get_or table x 0) l)
    ∙ h x k

shift-end : (x : ℕ) (m : List ℕ) (k : ℕ) → length m ≤ 1 → shift_from x m k ≡ k
unfolding shift_from
shift-end x [] k l = refl
shift-end x (y ∷ []) k l = refl
shift-end x (y ∷ z ∷ ys) k l = absurd (omega arith)

pub made_all : (m : List ℕ) (i : ℕ) (table : List ℕ) → length m ≤ i + 1 → Made m i table → ShiftsOf m table
made_all m i table l h x k = sym (shift-end x (drop i m) (get_or table x 0) (omega (arith, length-drop i m))) ∙ h x k

-- the entry of a byte, as it is read
pub shift-entry : (m table : List ℕ) (x r : ℕ) → ShiftsOf m table → (r ≡ get_or table x 0) × (x < 256) → r ≡ shift_of m x
shift-entry m table x r h e = e.0 ∙ h x e.1

-- ---- first bytes that agree

pub common-most : (m s : List ℕ) → common_of m s ≤ length m
unfolding common_of
common-most [] s = omega arith
common-most (x ∷ m) [] = omega arith
common-most (x ∷ m) (y ∷ s) =
    test (eqb y x) (λ q. rw q (omega (arith, common-most m s))) (λ q. rw q (omega arith))

common-whole : (m s : List ℕ) → length m ≤ length s → starts m s ≡ eqb (common_of m s) (length m)
unfolding common_of starts same
common-whole [] s l = refl
common-whole (x ∷ m) [] l = absurd (omega arith)
common-whole (x ∷ m) (y ∷ s) l =
    let h = common-whole m s (omega arith) in
    test (eqb y x)
    (λ q. rw q (h ∙ sym (eqb-suc-suc (common_of m s) (length m))))
    (λ q. rw q (sym (ne_eqb 0 (suc (length m)) (λ e. omega (arith, e)))))

-- the first i agree, and what is left
abbrev pub Agreed : List ℕ → List ℕ → ℕ → Type 0
Agreed m s i = common_of m s ≡ i + common_of (drop i m) (drop i s)

pub agreed-none : (m s : List ℕ) → Agreed m s 0
agreed-none m s = omega arith

common-at : (m s : List ℕ) (i : ℕ) → i < length m → i < length s
    → common_of (drop i m) (drop i s) ≡ cond (eqb (get_or s i 0) (get_or m i 0)) (suc (common_of (drop (i + 1) m) (drop (i + 1) s))) 0
unfolding common_of
common-at m s i l k = rw (add-one i, drop-cons m i 0, drop-cons s i 0)

pub agreed-next : (m s : List ℕ) (i : ℕ) → i < length m → i < length s → get_or s i 0 ≡ get_or m i 0 → Agreed m s i → Agreed m s (i + 1)
agreed-next m s i l k e h =
    let q = common-at m s i l k in
    let r = rw (eq-eqb (get_or s i 0) (get_or m i 0) e) at q in
    omega arith

pub agreed-stop : (m s : List ℕ) (i : ℕ) → i < length m → i < length s → (get_or s i 0 ≡ get_or m i 0 → ⊥) → Agreed m s i → i ≡ common_of m s
agreed-stop m s i l k n h =
    let q = common-at m s i l k in
    let r = rw (ne_eqb (get_or s i 0) (get_or m i 0) n) at q in
    omega arith

pub agreed-all : (m s : List ℕ) (i : ℕ) → i ≡ length m → Agreed m s i → i ≡ common_of m s
agreed-all m s i e h = omega (arith, common-most (drop i m) (drop i s), length-drop i m)

common-skip : (k : ℕ) (a b : List ℕ) → k ≤ length a → k ≤ length b → same (take k a) (take k b) ≡ true
    → common_of a b ≡ k + common_of (drop k a) (drop k b)
unfolding common_of same
common-skip zero a b l h e = omega arith
common-skip (suc k) [] b l h e = absurd (omega arith)
common-skip (suc k) (x ∷ a) [] l h e = absurd (omega arith)
common-skip (suc k) (x ∷ a) (y ∷ b) l h e =
    let q = and_both (eqb x y) (same (take k a) (take k b)) e in
    rw (eq-eqb y x (sym (eqb-true x y q.0))) (omega (arith, common-skip k a b (omega arith) (omega arith) q.1))

-- n bytes more, compared at once
pub agreed-stretch : (m s : List ℕ) (i n : ℕ) → i + n ≤ length m → i + n ≤ length s
    → same (take (i + n - i) (drop i m)) (take (i + n - i) (drop i s)) ≡ true → Agreed m s i → Agreed m s (i + n)
agreed-stretch m s i n l k e h =
    let w : i + n - i ≡ n = omega arith in
    let q = common-skip n (drop i m) (drop i s) (omega (arith, length-drop i m)) (omega (arith, length-drop i s)) (rw w at e) in
    omega (arith, rw (drop-drop n i m, drop-drop n i s) at q)

pub agreed-rest : (m s : List ℕ) (i r : ℕ) → Agreed m s i → r ≡ common_of (take (length m - i) (drop i m)) (take (length s - i) (drop i s))
    → i + r ≡ common_of m s
agreed-rest m s i r h e =
    let g = rw (part-drop m i, part-drop s i) at e in
    omega arith

-- ---- where the mark can't stand

starts-at : (m s : List ℕ) (i : ℕ) → starts m s ≡ true → i < length m → get_or s i 0 ≡ get_or m i 0
unfolding starts
starts-at m s i h l =
    sym (get_or-take (length m) s i 0 l) ∙ ap (λ (v : List ℕ). get_or v i 0) (same-eq (take (length m) s) m h)

moved-not : (m s : List ℕ) (j d : ℕ) → j < length m → 0 < d → d + (length m - 1 - j) < shift_of m (get_or s j 0)
    → starts m (drop d s) ≡ false
unfolding shift_of
moved-not m s j d l z h =
    let most = shift-most (get_or s j 0) m (length m) (length m) (omega arith) (omega arith) in
    let back : d + (j - d) ≡ j = omega arith in
    test (starts m (drop d s))
    (λ q.
    let e : get_or m (j - d) 0 ≡ get_or s j 0 =
    sym (starts-at m (drop d s) (j - d) q (omega arith)) ∙ get_or-drop d s (j - d) 0 ∙ ap (λ (i : ℕ). get_or s i 0) back in
    absurd (omega (arith, shift-at (get_or s j 0) m (j - d) (length m) (omega arith) e)))
    (λ q. q)

-- ---- how far on it can stand

ahead_within : (m s : List ℕ) → 0 < length m → (1 ≤ ahead m s) × (ahead m s ≤ length m)
unfolding ahead
ahead_within m s l =
    let a = shift-within m (last_of m s) l in
    let b = shift-within m (get_or s (common_of m s) 0) l in
    test (eqb (last_of m s) (last_of m m))
    (λ q. rw q (omega arith, omega arith))
    (λ q. rw q a)

common-less : (m s : List ℕ) → length m ≤ length s → starts m s ≡ false → common_of m s < length m
common-less m s l e =
    let n = eqb-false (common_of m s) (length m) (sym (common-whole m s l) ∙ e) in
    omega (arith, common-most m s, n)

ahead-not : (m s : List ℕ) (d : ℕ) → 0 < length m → length m ≤ length s → starts m s ≡ false → 0 < d → d < ahead m s
    → starts m (drop d s) ≡ false
unfolding ahead
ahead-not m s d z l e p h =
    let by_last : d < shift_of m (last_of m s) → starts m (drop d s) ≡ false = λ k. moved-not m s (length m - 1) d (omega arith) p (omega arith) in
    let n = common_of m s in
    let by-other : d < shift_of m (get_or s n 0) - (length m - 1 - n) → starts m (drop d s) ≡ false =
    λ k. moved-not m s n d (common-less m s l e) p (omega arith) in
    test (eqb (last_of m s) (last_of m m))
    (λ q.
    let k = rw q at h in
    test (ltb d (shift_of m (last_of m s)))
    (λ r. by_last (ltb-true d (shift_of m (last_of m s)) r))
    (λ r. by-other (omega (arith, ltb-false d (shift_of m (last_of m s)) r))))
    (λ q. by_last (rw q at h))

-- ---- the step

step-here : (m s : List ℕ) → starts m s ≡ true → 0 ≡ step_of m s
unfolding step_of
step-here m s e = rw e

-- near, or the mark short: what follows does not depend on it
abbrev near : List ℕ → ℕ → Bool
near m a = ltb a 8 || ltb (length m) 16

pub further-on : (m s : List ℕ) (a k : ℕ) → near m a ≡ true → k ≡ find (get_or m 0 0 ∷ []) (take (length s - a) (drop a s))
    → a + k ≡ further_from m s a
unfolding further_from
further-on m s a k n e = rw n (rw (← part-drop s a) (ap (λ (x : ℕ). a + x) e))

pub further-one : (m s : List ℕ) (a k : ℕ) → a ≡ 1 → k ≡ find (get_or m 0 0 ∷ []) (take (length s - 1) (drop 1 s)) → 1 + k ≡ further_from m s a
further-one m s a k n e = rw n (further-on m s 1 k refl e)

pub further-not : (m s : List ℕ) (a : ℕ) → near m a ≡ false → a ≡ further_from m s a
unfolding further_from
further-not m s a n = rw n

further-least : (m s : List ℕ) (a : ℕ) → a ≤ further_from m s a
unfolding further_from
further-least m s a = test (near m a) (λ q. rw q (omega arith)) (λ q. rw q (omega arith))

further-most : (m s : List ℕ) (a : ℕ) → a ≤ length s → further_from m s a ≤ length s
unfolding further_from
further-most m s a l =
    let h = find-fits (get_or m 0 0 ∷ []) (drop a s) in
    test (near m a) (λ q. rw q (omega (arith, length-drop a s))) (λ q. rw q (omega arith))

step_is : (m s : List ℕ) → starts m s ≡ false → step_of m s ≡ further_from m s (ahead m s)
unfolding step_of
step_is m s e = rw e

-- the last bytes differ; all agree; an other one is the first that differs
pub step-last : (m s : List ℕ) (r : ℕ) → 0 < length m → (last_of m s ≡ last_of m m → ⊥) → r ≡ further_from m s (shift_of m (last_of m s)) → r ≡ step_of m s
unfolding ahead
step-last m s r z n e =
    let not-here : starts m s ≡ false = test (starts m s) (λ q. absurd (n (starts-at m s (length m - 1) q (omega arith)))) (λ q. q) in
    e ∙ sym (step_is m s not-here ∙ rw (ne_eqb (last_of m s) (last_of m m) n))

pub step-found : (m s : List ℕ) → length m ≤ length s → common_of m s ≡ length m → 0 ≡ step_of m s
step-found m s l e = step-here m s (common-whole m s l ∙ eq-eqb (common_of m s) (length m) e)

pub step_other : (m s : List ℕ) (n a b d g r : ℕ) → length m ≤ length s → last_of m s ≡ last_of m m → n ≡ common_of m s → (n ≡ length m → ⊥)
    → a ≡ shift_of m (last_of m s) → b ≡ shift_of m (get_or s n 0) → d ≡ b - (length m - 1 - n) → g ≡ max a d → r ≡ further_from m s g → r ≡ step_of m s
unfolding ahead
step_other m s n a b d g r l q k f ea eb ed eg er =
    let not-here = common-whole m s l ∙ ne_eqb (common_of m s) (length m) (λ w. f (k ∙ w)) in
    let both : ahead m s ≡ g = rw (eq-eqb (last_of m s) (last_of m m) q, ← k, ← ea, ← eb, ← ed) (sym eg) in
    er ∙ sym (step_is m s not-here ∙ ap (λ (x : ℕ). further_from m s x) both)

step-least : (m s : List ℕ) → 0 < length m → starts m s ≡ false → ahead m s ≤ step_of m s
step-least m s z e = rw (step_is m s e) (further-least m s (ahead m s))

step-some : (m s : List ℕ) → 0 < length m → starts m s ≡ false → 1 ≤ step_of m s
step-some m s z e = omega (arith, (ahead_within m s z).0, step-least m s z e)

step-most : (m s : List ℕ) → 0 < length m → length m ≤ length s → step_of m s ≤ length s
unfolding step_of
step-most m s z l =
    test (starts m s)
    (λ q. rw q (omega arith))
    (λ q. rw q (further-most m s (ahead m s) (omega (arith, (ahead_within m s z).1))))

step-zero : (m s : List ℕ) → 0 < length m → step_of m s ≡ 0 → starts m s ≡ true
step-zero m s z e = test (starts m s) (λ q. q) (λ q. absurd (omega (arith, step-some m s z q)))

step-not : (m s : List ℕ) → (step_of m s ≡ 0 → ⊥) → starts m s ≡ false
step-not m s n = test (starts m s) (λ q. absurd (n (sym (step-here m s q)))) (λ q. q)

further-passed : (m s : List ℕ) (p a : ℕ) → 0 < length m → p + a ≤ length s → Passed m s (p + a)
    → Passed m s (p + further_from m (drop p s) a)
unfolding further_from
further-passed m s p a z l h =
    test (near m a)
    (λ q.
    let k = find (get_or m 0 0 ∷ []) (drop a (drop p s)) in
    let e : p + (a + k) ≡ p + a + k = omega arith in
    let g = rw (← append-nil s) at h in
    let r = passed-byte m s [] (p + a) k z l g (rw drop-drop) in
    rw (q, e) (rw append-nil at r))
    (λ q. rw q h)

step-passed : (m s : List ℕ) (p : ℕ) → 0 < length m → p + length m ≤ length s → starts m (drop p s) ≡ false → Passed m s p
    → Passed m s (p + step_of m (drop p s))
step-passed m s p z l e h =
    let a = ahead m (drop p s) in
    let most = (ahead_within m (drop p s) z).1 in
    let room : length m ≤ length (drop p s) = omega (arith, length-drop p s) in
    let f : (d : ℕ) → d < a → starts m (drop (p + d) s) ≡ false =
    λ d k. test (eqb d 0)
    (λ q. rw (eqb-true d 0 q) (rw (let g : p + 0 ≡ p = omega arith in g) e))
    (λ q. rw (← drop-drop d p s) (ahead-not m (drop p s) d z room e (omega (arith, eqb-false d 0 q)) k)) in
    rw (step_is m (drop p s) e) (further-passed m s p a z (omega arith) (passed-more m s p a (omega arith) f h))

-- ---- the count

tries-skip : (m : List ℕ) (k : ℕ) (s : List ℕ) → tries m k s ≡ tries m 0 (drop k s)
unfolding tries
tries-skip m zero s = refl
tries-skip m (suc k) [] = refl
tries-skip m (suc k) (x ∷ s) = tries-skip m k s

tries-short : (m s : List ℕ) → length s < length m → tries m 0 s ≡ 0
unfolding tries
tries-short m [] l = refl
tries-short m (x ∷ s) l = rw (lt-leb (length m) (length (x ∷ s)) l)

tries-here : (m s : List ℕ) → 0 < length m → length m ≤ length s → starts m s ≡ true → tries m 0 s ≡ 1
unfolding tries
tries-here m [] z l e = absurd (omega arith)
tries-here m (x ∷ s) z l e = rw (le-leb (length m) (length (x ∷ s)) l, e)

tries-next : (m s : List ℕ) → 0 < length m → length m ≤ length s → starts m s ≡ false
    → tries m 0 s ≡ 1 + tries m 0 (drop (step_of m s) s)
unfolding tries
tries-next m [] z l e = absurd (omega arith)
tries-next m (x ∷ s) z l e =
    let k : step_of m (x ∷ s) ≡ suc (step_of m (x ∷ s) - 1) = omega (arith, step-some m (x ∷ s) z e) in
    let d : drop (step_of m (x ∷ s)) (x ∷ s) ≡ drop (step_of m (x ∷ s) - 1) s = ap (λ (n : ℕ). drop n (x ∷ s)) k in
    rw (le-leb (length m) (length (x ∷ s)) l, e, d, tries-skip m (step_of m (x ∷ s) - 1) s) (omega arith)

-- the places tried before p were t
abbrev pub Counted : List ℕ → List ℕ → ℕ → ℕ → Type 0
Counted m s p t = tries m 0 s ≡ t + tries m 0 (drop p s)

counted-here : (m s : List ℕ) (p t : ℕ) → 0 < length m → p + length m ≤ length s → starts m (drop p s) ≡ true → Counted m s p t
    → t + 1 ≡ tries m 0 s
counted-here m s p t z l e h = omega (arith, tries-here m (drop p s) z (omega (arith, length-drop p s)) e)

counted_next : (m s : List ℕ) (p t : ℕ) → 0 < length m → p + length m ≤ length s → starts m (drop p s) ≡ false → Counted m s p t
    → Counted m s (p + step_of m (drop p s)) (t + 1)
counted_next m s p t z l e h =
    let q = tries-next m (drop p s) z (omega (arith, length-drop p s)) e in
    omega (arith, rw (drop-drop (step_of m (drop p s)) p s) at q)

counted-end : (m s : List ℕ) (p t : ℕ) → p ≤ length s → length s < p + length m → Counted m s p t → t ≡ tries m 0 s
counted-end m s p t b l h = omega (arith, tries-short m (drop p s) (omega (arith, length-drop p s)))

find-short : (m s : List ℕ) → length s < length m → find m s ≡ length s
unfolding find
find-short m [] l = refl
find-short m (x ∷ s) l = rw (← starts-short m (x ∷ s) l) (ap suc (find-short m s (omega arith)))

passed-last : (m s : List ℕ) (p : ℕ) → p ≤ length s → length s < p + length m → Passed m s p → length s ≡ find m s
passed-last m s p b l h = omega (arith, find-short m (drop p s) (omega (arith, length-drop p s)), length-drop p s)

-- ---- from place to place, as the loop has them

pub sought-here : (m s : List ℕ) (p t on : ℕ) → 0 < length m → p ≤ length s → length m ≤ length s - p
    → on ≡ step_of m (take (length s - p) (drop p s)) → on ≡ 0 → Passed m s p → Counted m s p t → (p ≡ find m s) × (t + 1 ≡ tries m 0 s)
sought-here m s p t on z b l e n h k =
    let here = step-zero m (drop p s) z (sym (rw (part-drop s p) at e) ∙ n) in
    (passed_here m s p here h, counted-here m s p t z (omega arith) here k)

pub sought-next : (m s : List ℕ) (p t on : ℕ) → 0 < length m → p ≤ length s → length m ≤ length s - p → t ≤ p
    → on ≡ step_of m (take (length s - p) (drop p s)) → (on ≡ 0 → ⊥) → Passed m s p → Counted m s p t
    → (p + on ≤ length s) × (t + 1 ≤ p + on) × Passed m s (p + on) × Counted m s (p + on) (t + 1)
sought-next m s p t on z b l c e n h k =
    let g = rw (part-drop s p) at e in
    let not-here = step-not m (drop p s) (λ q. n (g ∙ q)) in
    rw g (
      omega (arith, step-most m (drop p s) z (omega (arith, length-drop p s)), length-drop p s),
      omega (arith, step-some m (drop p s) z not-here),
      step-passed m s p z (omega arith) not-here h,
      counted_next m s p t z (omega arith) not-here k,
    )

pub sought-end : (m s : List ℕ) (p t : ℕ) → p ≤ length s → length s - p < length m → Passed m s p → Counted m s p t
    → (length s ≡ find m s) × (t ≡ tries m 0 s)
sought-end m s p t b l h k = (passed-last m s p b (omega arith) h, counted-end m s p t b (omega arith) k)

-- ---- few places

without-drop : (m : List ℕ) (k : ℕ) (s : List ℕ) → without m s ≡ true → without m (drop k s) ≡ true
unfolding without
without-drop m k s h = all_drop (λ x. not (is_in x m)) k s h

-- the byte under the last one is not in the mark
out-last : (m s : List ℕ) → 0 < length m → length m ≤ length s → without m s ≡ true → is_in (last_of m s) m ≡ false
unfolding without
out-last m s z l h = not-true (is_in (last_of m s) m) (all-at (λ x. not (is_in x m)) s (length m - 1) (omega arith) h)

out-not : (m s : List ℕ) → 0 < length m → is_in (last_of m s) m ≡ false → last_of m s ≡ last_of m m → ⊥
out-not m s z h e = untrue (sym h ∙ ap (λ (x : ℕ). is_in x m) e ∙ in-at m (length m - 1) (omega arith))

ahead-out : (m s : List ℕ) → 0 < length m → is_in (last_of m s) m ≡ false → ahead m s ≡ length m
unfolding ahead shift_of
ahead-out m s z h = rw (ne_eqb (last_of m s) (last_of m m) (out-not m s z h), shift_none (last_of m s) m (length m) h)

starts-out : (m s : List ℕ) → 0 < length m → is_in (last_of m s) m ≡ false → starts m s ≡ false
starts-out m s z h =
    test (starts m s) (λ q. absurd (out-not m s z h (starts-at m s (length m - 1) q (omega arith)))) (λ q. q)

few-more : (m s : List ℕ) → 0 < length m → length m ≤ length s → without m s ≡ true
    → tries m 0 (drop (step_of m s) s) * length m ≤ length (drop (step_of m s) s) → tries m 0 s * length m ≤ length s
few-more m s z l h r =
    let out = out-last m s z l h in
    let e = starts-out m s z out in
    let k = step_of m s in
    let t = tries m 0 (drop k s) in
    let long : length m ≤ k = omega (arith, step-least m s z e, ahead-out m s z out) in
    let one_more : (1 + t) * length m ≡ length m + t * length m = add-mul 1 t (length m) ∙ ap (λ (x : ℕ). x + t * length m) (one-mul (length m)) in
    rw (tries-next m s z l e, one_more) (omega (arith, step-most m s z l, length-drop k s))

few-to : (n : ℕ) (m s : List ℕ) → length s ≤ n → 0 < length m → without m s ≡ true → tries m 0 s * length m ≤ length s
few-to zero m s b z h = rw (tries-short m s (omega arith)) (omega arith)
few-to (suc n) m s b z h =
    test (ltb (length s) (length m))
    (λ q. rw (tries-short m s (ltb-true (length s) (length m) q)) (omega arith))
    (λ q.
    let l = ltb-false (length s) (length m) q in
    let k = step_of m s in
    let some = step-some m s z (starts-out m s z (out-last m s z l h)) in
    few-more m s z l h (few-to n m (drop k s) (omega (arith, length-drop k s)) z (without-drop m k s h)))

-- "in data without a byte of the mark at most one for each whole mark length": the places tried, each times that length, are
-- no more than the data. So they are at most the whole part of the quotient of the two lengths, without a division.
pub few : (m s : List ℕ) → 0 < length m → without m s ≡ true → tries m 0 s * length m ≤ length s
few m s z h = few-to (length s) m s (omega arith) z h

-- ---- a text and a tail

-- a mark of neither no bytes nor over 999
pub has-shifts : (n : ℕ) → (eqb n 0 || ltb 999 n) ≡ false → (1 ≤ n) × (n ≤ 999)
has-shifts n e =
    let q = or-false (eqb n 0) (ltb 999 n) e in
    (omega (arith, eqb-false n 0 q.0), ltb-false 999 n q.1)

find-room : (m s : List ℕ) → find m s < length s → find m s + length m ≤ length s
unfolding find
find-room m [] l = absurd (omega arith)
find-room m (x ∷ s) l =
    test (starts m (x ∷ s))
    (λ q. rw q (omega (arith, starts-fits m (x ∷ s) q)))
    (λ q. let k = rw q at l in rw q (omega (arith, find-room m s (omega arith))))

pub rest-found : (m s t : List ℕ) (p : ℕ) → p ≡ find m s → p < length s → p ≡ find m (s ++ t)
rest-found m s t p e l = e ∙ sym (find-local m s t (find-room m s (rw e at l)))

-- not inside the text: places from which a whole mark is left of it are passed
pub rest-behind : (m s t : List ℕ) (from p q : ℕ) → p ≡ find m s → length s ≤ p → from ≤ length s
    → ((d : ℕ) → d < from → d + length m ≤ length s) → q ≡ find m (take (length s - from) (drop from s) ++ t) → from + q ≡ find m (s ++ t)
rest-behind m s t from p q e l b room f =
    let not-here : (d : ℕ) → d < from → starts m (drop (0 + d) (s ++ t)) ≡ false =
    λ d k.
    let plain : starts m (drop d (s ++ t)) ≡ starts m (drop d s) =
    rw (drop-append-le d s t (omega arith)) (starts-local m (drop d s) t (omega (arith, length-drop d s, room d k))) in
    rw (zero-add d) (plain ∙ test (starts m (drop d s)) (λ r. absurd (omega (arith, find-least m s d r))) (λ r. r)) in
    let h = passed-more m (s ++ t) 0 from (omega (arith, length-append s t)) not-here (passed_none m (s ++ t)) in
    let g = rw (zero-add from, drop-append-le from s t b) at h in
    let w = rw (part-drop s from) at f in
    omega arith
