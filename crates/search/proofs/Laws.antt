-- Laws of the search for a mark ("the first place where the mark occurs"), for the loops of src/lib.rt.
--     same-..      two runs of bytes: lengths that differ, as `==` of the library compares them
--     all-..       all bytes compared, one after another
--     starts-..    a beginning: too short, across two runs; front-.. its first bytes
--     find-..      found here, later, never past the end
--     Passed       the search over all is the search from a place on: nothing was found before it
--     passed-..    such a place where the search begins, one place on, several, on to a byte; what is found there, from there on, at
--                  the end; part-.. the part from there on
--     byte-..      the search for one byte, from place to place and in the first bytes
--     any-..       whether it occurs, all bytes compared
--     inside-..    the first place inside the first of two runs, and what the search in both is from it
-- Assumes nothing.
use Prim.Native.Nat.{ℕ, zero, suc, ◌+◌, ◌-◌, ◌≤◌, ◌<◌, min}
use mathlib.Core.Bool.{Bool, true, false, ◌&&◌, ◌||◌, and-true, and-false}
use mathlib.Core.Path.{◌≡◌, refl, sym, ap, ◌∙◌}
use mathlib.Core.List.{List, [], ◌∷◌, ◌++◌, append-nil}
use native.Mathlib.Nat.{zero-add}
use native.Mathlib.Numerals.{add-one}
use native.Mathlib.Omega.{arith}
use lib.Dec.{eqb}
use lib.ListN.{length, take, drop, get_or, length-append, length-drop, length-take, take-append-drop, drop_of_length-le}
use lib.Seq.{drop-cons, drop-append-le, drop-drop, take-append-add, get_or-drop, get_or-take}
use borrow.Author.Tests.{eq-eqb, ne_eqb, eqb-true}
use Rattle.std.specs.Cmp.Lexicographic.{pointwise}
use Rattle.metafile.specs.Bytes.{same, starts, find}
use Rattle.search.specs.Shifts.{is_in}
use Rattle.laws.proofs.First.{test, untrue, or_left, or_right}
use Rattle.laws.proofs.Lists.{find-fits, find-local}
use Rattle.laws.proofs.Loops.{part-drop}

-- ---- the same bytes

pub same-lengths : (a b : List ℕ) → (length a ≡ length b → ⊥) → false ≡ same a b
unfolding same
same-lengths [] [] n = absurd (n refl)
same-lengths [] (y ∷ b) n = refl
same-lengths (x ∷ a) [] n = refl
same-lengths (x ∷ a) (y ∷ b) n = rw (← same-lengths a b (λ e. n (ap suc e))) (sym (and-false (eqb x y)))

same_at : (a b : List ℕ) (i : ℕ) → i < length a → i < length b
    → same (drop i a) (drop i b) ≡ (eqb (get_or a i 0) (get_or b i 0) && same (drop (suc i) a) (drop (suc i) b))
unfolding same
same_at a b i h k = rw (drop-cons a i 0, drop-cons b i 0)

-- all bytes compared: what holds of those passed, and the rest
pub all-begin : (a b : List ℕ) → same a b ≡ (true && same (drop 0 a) (drop 0 b))
all-begin a b = refl

pub all-next : (a b : List ℕ) (i : ℕ) (good : Bool) → i < length a → i < length b → same a b ≡ (good && same (drop i a) (drop i b))
    → same a b ≡ ((good && eqb (get_or a i 0) (get_or b i 0)) && same (drop (i + 1) a) (drop (i + 1) b))
all-next a b i true h k e = e ∙ same_at a b i h k ∙ rw (add-one i)
all-next a b i false h k e = e

pub all_end : (a b : List ℕ) (i : ℕ) (good : Bool) → length a ≤ i → length b ≤ i → same a b ≡ (good && same (drop i a) (drop i b)) → good ≡ same a b
unfolding same
all_end a b i true h k e = sym (e ∙ rw (drop_of_length-le a h, drop_of_length-le b k))
all_end a b i false h k e = sym e

-- as `==` of the library compares
pub same-pointwise : (a b : List ℕ) → pointwise eqb a b ≡ same a b
unfolding same
same-pointwise [] [] = refl
same-pointwise [] (y ∷ b) = refl
same-pointwise (x ∷ a) [] = refl
same-pointwise (x ∷ a) (y ∷ b) = rw (same-pointwise a b)

same-append : (a b c d : List ℕ) → length a ≡ length b → same (a ++ c) (b ++ d) ≡ (same a b && same c d)
unfolding same
same-append [] [] c d e = refl
same-append [] (y ∷ b) c d e = absurd (omega arith)
same-append (x ∷ a) [] c d e = absurd (omega arith)
same-append (x ∷ a) (y ∷ b) c d e =
    let h = same-append a b c d (omega arith) in
    test (eqb x y) (λ q. rw q h) (λ q. rw q)

-- ---- beginnings

pub starts-short : (m s : List ℕ) → length s < length m → false ≡ starts m s
unfolding starts
starts-short m s h = same-lengths (take (length m) s) m (λ e. omega (arith, length-take (length m) s))

starts-across : (m s t : List ℕ) → length s ≤ length m
    → starts m (s ++ t) ≡ (same s (take (length s) m) && starts (drop (length s) m) t)
unfolding starts
starts-across m s t h =
    let front = take (length s) m in
    let back = drop (length s) m in
    let n : length m ≡ length s + length back = omega (arith, length-drop (length s) m) in
    let e : take (length m) (s ++ t) ≡ s ++ take (length back) t = rw n (take-append-add s t (length back)) in
    let q : same (s ++ take (length back) t) (front ++ back) ≡ (same s front && same (take (length back) t) back) =
    same-append s front (take (length back) t) back (omega (arith, length-take (length s) m)) in
    rw e (rw (take-append-drop (length s) m) at q)

-- the part of the mark behind s, as a call gets it
pub starts-rest : (m s t : List ℕ) (a b : Bool) → length s ≤ length m → a ≡ same s (take (length s) m) → a ≡ true
    → b ≡ starts (take (length m - length s) (drop (length s) m)) t → b ≡ starts m (s ++ t)
starts-rest m s t a b h e z f = rw part-drop at f ∙ sym (starts-across m s t h ∙ rw (← e, z))

pub starts-not : (m s t : List ℕ) (a : Bool) → length s ≤ length m → a ≡ same s (take (length s) m) → a ≡ false → false ≡ starts m (s ++ t)
starts-not m s t a h e z = sym (starts-across m s t h ∙ rw (← e, z))

-- a mark whose first k bytes differ
module _ (m s : List ℕ) (k : ℕ) (h : k ≤ length m) (g : length m ≤ length s) where
  front-long : length (take k s) ≡ k
  front-long = omega (arith, length-take k s)

  front-fits : length (take k s) ≤ length m
  front-fits = omega (arith, front-long)

  pub front-not : (a : Bool) → a ≡ same (take k s) (take k m) → a ≡ false → false ≡ starts m s
  front-not a e z =
      let q : false ≡ starts m (take k s ++ drop k s) = starts-not m (take k s) (drop k s) a front-fits (rw front-long e) z in
      rw (take-append-drop k s) at q

-- ---- places passed over

abbrev pub Passed : List ℕ → List ℕ → ℕ → Type 0
Passed m s p = find m s ≡ p + find m (drop p s)

pub passed_none : (m s : List ℕ) → Passed m s 0
passed_none m s = omega arith

find-here : (m s : List ℕ) → starts m s ≡ true → find m s ≡ 0
unfolding find
find-here m [] e = refl
find-here m (x ∷ s) e = rw e

find-later : (m s : List ℕ) → 0 < length s → starts m s ≡ false → find m s ≡ suc (find m (drop 1 s))
unfolding find
find-later m [] h e = absurd (omega arith)
find-later m (x ∷ s) h e = rw e

pub passed_here : (m s : List ℕ) (p : ℕ) → starts m (drop p s) ≡ true → Passed m s p → p ≡ find m s
passed_here m s p e h = omega (arith, find-here m (drop p s) e)

pub passed-one : (m s : List ℕ) (p : ℕ) → p < length s → starts m (drop p s) ≡ false → Passed m s p → Passed m s (p + 1)
passed-one m s p l e h =
    let q = find-later m (drop p s) (omega (arith, length-drop p s)) e in
    omega (arith, rw drop-drop at q)

-- several places at once
pub passed-more : (m s : List ℕ) (p k : ℕ) → p + k ≤ length s → ((d : ℕ) → d < k → starts m (drop (p + d) s) ≡ false)
    → Passed m s p → Passed m s (p + k)
passed-more m s p zero l f h = rw (let e : p + zero ≡ p = omega arith in e) h
passed-more m s p (suc k) l f h =
    let e : p + suc k ≡ p + k + 1 = omega arith in
    rw e (passed-one m s (p + k) (omega arith) (f k (omega arith)) (passed-more m s p k (omega arith) (λ d b. f d (omega arith)) h))

pub passed-end : (m s : List ℕ) (p : ℕ) → length s ≤ p → Passed m s p → p ≡ find m s
unfolding find
passed-end m s p l h =
    let q = rw (drop_of_length-le s l) at h in
    omega arith

-- ---- one byte

starts-byte : (b : ℕ) (s : List ℕ) (p : ℕ) → p < length s → starts (b ∷ []) (drop p s) ≡ eqb (get_or s p 0) b
unfolding starts same
starts-byte b s p h = rw (drop-cons s p 0) (and-true (eqb (get_or s p 0) b))

pub byte-here : (b : ℕ) (s : List ℕ) (i : ℕ) → i < length s → get_or s i 0 ≡ b → Passed (b ∷ []) s i → i ≡ find (b ∷ []) s
byte-here b s i l e h = passed_here (b ∷ []) s i (starts-byte b s i l ∙ eq-eqb (get_or s i 0) b e) h

pub byte-not : (b : ℕ) (s : List ℕ) (i : ℕ) → i < length s → (get_or s i 0 ≡ b → ⊥) → Passed (b ∷ []) s i → Passed (b ∷ []) s (i + 1)
byte-not b s i l n h = passed-one (b ∷ []) s i l (starts-byte b s i l ∙ ne_eqb (get_or s i 0) b n) h

passed-suc : (m s : List ℕ) (y k : ℕ) → starts m (y ∷ s) ≡ false → Passed m s k → Passed m (y ∷ s) (suc k)
passed-suc m s y k e h = omega (arith, find-later m (y ∷ s) (omega arith) e)

first-differs : (x y : ℕ) (m s : List ℕ) → eqb y x ≡ false → starts (x ∷ m) (y ∷ s) ≡ false
unfolding starts same
first-differs x y m s e = rw e

first_found : (x : ℕ) (m s t : List ℕ) → Passed (x ∷ m) (s ++ t) (find (x ∷ []) s)
first_found x m [] t = rw (← passed-end (x ∷ []) [] 0 (omega arith) (passed_none (x ∷ []) [])) (passed_none (x ∷ m) t)
first_found x m (y ∷ s) t =
    let h = first_found x m s t in
    test (eqb y x)
    (λ q. rw (← byte-here x (y ∷ s) 0 (omega arith) (eqb-true y x q) (passed_none (x ∷ []) (y ∷ s))) (passed_none (x ∷ m) (y ∷ (s ++ t))))
    (λ q.
    rw (find-later (x ∷ []) (y ∷ s) (omega arith) (first-differs x y [] s q))
    (passed-suc (x ∷ m) (s ++ t) y (find (x ∷ []) s) (first-differs x y m (s ++ t) q) h))

-- the place of the mark's first byte, in what follows a place that was reached
pub passed-byte : (m s t : List ℕ) (p k : ℕ) → 0 < length m → p ≤ length s → Passed m (s ++ t) p
    → k ≡ find (get_or m 0 0 ∷ []) (drop p s) → Passed m (s ++ t) (p + k)
passed-byte [] s t p k n l h e = absurd (omega arith)
passed-byte (x ∷ m) s t p k n l h e =
    let q = rw (← e) at (first_found x m (drop p s) t) in
    let r = rw (← drop-append-le p s t l, drop-drop) at q in
    omega arith

pub byte-within : (b : ℕ) (s : List ℕ) (p k : ℕ) → p ≤ length s → k ≡ find (b ∷ []) (drop p s) → p + k ≤ length s
byte-within b s p k l e = omega (arith, find-fits (b ∷ []) (drop p s), length-drop p s)

-- ---- a byte that occurs or not

pub any-begin : (b : ℕ) (s : List ℕ) → is_in b s ≡ (false || is_in b (drop 0 s))
any-begin b s = refl

any_at : (b : ℕ) (s : List ℕ) (i : ℕ) → i < length s → is_in b (drop i s) ≡ (eqb (get_or s i 0) b || is_in b (drop (i + 1) s))
unfolding is_in
any_at b s i l = rw (drop-cons s i 0, add-one i)

pub any_next : (b : ℕ) (s : List ℕ) (i : ℕ) (found : Bool) → i < length s → is_in b s ≡ (found || is_in b (drop i s))
    → is_in b s ≡ ((found || eqb (get_or s i 0) b) || is_in b (drop (i + 1) s))
any_next b s i true l e = e
any_next b s i false l e = e ∙ any_at b s i l

pub any-end : (b : ℕ) (s : List ℕ) (i : ℕ) (found : Bool) → length s ≤ i → is_in b s ≡ (found || is_in b (drop i s)) → found ≡ is_in b s
unfolding is_in
any-end b s i true l e = sym e
any-end b s i false l e = sym (e ∙ rw (drop_of_length-le s l))

pub in-at : (m : List ℕ) (i : ℕ) → i < length m → is_in (get_or m i 0) m ≡ true
unfolding is_in
in-at [] i l = absurd (omega arith)
in-at (x ∷ m) zero l = or_left (eqb x x) (is_in x m) (eq-eqb x x refl)
in-at (x ∷ m) (suc i) l = or_right (eqb x (get_or m i 0)) (is_in (get_or m i 0) m) (in-at m i (omega arith))

-- a stretch of n bytes that does not have the byte is passed over
pub passed-stretch : (b : ℕ) (s : List ℕ) (p n : ℕ) → p + n ≤ length s → is_in b (take (p + n - p) (drop p s)) ≡ false
    → Passed (b ∷ []) s p → Passed (b ∷ []) s (p + n)
passed-stretch b s p n l e h =
    let w : p + n - p ≡ n = omega arith in
    let v = take n (drop p s) in
    let g : is_in b v ≡ false = rw w at e in
    let not-here : (d : ℕ) → d < n → starts (b ∷ []) (drop (p + d) s) ≡ false =
    λ d k.
    let same_byte : get_or v d 0 ≡ get_or s (p + d) 0 = get_or-take n (drop p s) d 0 k ∙ get_or-drop p s d 0 in
    let long : d < length v = omega (arith, length-take n (drop p s), length-drop p s) in
    starts-byte b s (p + d) (omega arith)
    ∙ ne_eqb (get_or s (p + d) 0) b (λ q. untrue (sym g ∙ ap (λ (x : ℕ). is_in x v) (sym (same_byte ∙ q)) ∙ in-at v d long)) in
    passed-more (b ∷ []) s p n l not-here h

-- found from a place on
pub passed-rest : (m s : List ℕ) (p q : ℕ) → Passed m s p → q ≡ find m (take (length s - p) (drop p s)) → p + q ≡ find m s
passed-rest m s p q h e =
    let g = rw (part-drop s p) at e in
    omega arith

pub part_length : (s : List ℕ) (p : ℕ) → length (take (length s - p) (drop p s)) ≡ length s - p
part_length s p = rw (part-drop s p) (length-drop p s)

pub part-within : (m s : List ℕ) (p q : ℕ) → p ≤ length s → q ≡ find m (take (length s - p) (drop p s)) → p + q ≤ length s
part-within m s p q l e =
    let g = rw (part-drop s p) at e in
    omega (arith, find-fits m (drop p s), length-drop p s)

-- the first n bytes looked at, then the rest
pub byte-near : (b : ℕ) (s : List ℕ) (n i : ℕ) → n ≤ length s → i ≡ find (b ∷ []) (take n s) → i < n → i ≡ find (b ∷ []) s
byte-near b s n i l e h =
    let q : find (b ∷ []) (take n s) + 1 ≤ length (take n s) = omega (arith, length-take n s) in
    e ∙ sym (find-local (b ∷ []) (take n s) (drop n s) q) ∙ ap (λ (v : List ℕ). find (b ∷ []) v) (take-append-drop n s)

pub byte-far : (b : ℕ) (s : List ℕ) (n i q : ℕ) → n ≤ length s → i ≡ find (b ∷ []) (take n s) → n ≤ i
    → q ≡ find (b ∷ []) (take (length s - n) (drop n s)) → n + q ≡ find (b ∷ []) s
byte-far b s n i q l e h f =
    let r = first_found b [] (take n s) (drop n s) in
    let k : find (b ∷ []) (take n s) ≡ n = omega (arith, find-fits (b ∷ []) (take n s), length-take n s) in
    passed-rest (b ∷ []) s n q (rw (k, take-append-drop n s) at r) f

-- ---- inside the first of two runs

place_is : (m s t : List ℕ) (p : ℕ) → p ≤ length s → starts m (take (length s - p) (drop p s) ++ t) ≡ starts m (drop p (s ++ t))
place_is m s t p h = rw (part-drop s p, drop-append-le p s t h)

pub inside-none : (m s t : List ℕ) → length m ≡ 0 → 0 ≡ min (find m (s ++ t)) (length s)
unfolding starts same
inside-none [] s t e = omega (arith, find-here [] (s ++ t) refl)
inside-none (x ∷ m) s t e = absurd (omega arith)

pub inside-begin : (m s t : List ℕ) (k : ℕ) → 0 < length m → k ≡ find (get_or m 0 0 ∷ []) s → (k ≤ length s) × Passed m (s ++ t) k
inside-begin m s t k n e =
    let q = passed-byte m s t 0 k n (omega arith) (passed_none m (s ++ t)) e in
    (omega (arith, find-fits (get_or m 0 0 ∷ []) s), rw zero-add at q)

-- a mark of one byte
single_is : (x : ℕ) (s t : List ℕ) → find (x ∷ []) s ≡ min (find (x ∷ []) (s ++ t)) (length s)
unfolding find starts same
single_is x [] t = omega arith
single_is x (y ∷ s) t = test (eqb y x) (λ q. rw q (omega arith)) (λ q. rw q (omega (arith, single_is x s t)))

pub inside-single : (m s t : List ℕ) (k : ℕ) → length m ≡ 1 → k ≡ find (get_or m 0 0 ∷ []) s → k ≡ min (find m (s ++ t)) (length s)
inside-single [] s t k n e = absurd (omega arith)
inside-single (x ∷ []) s t k n e = e ∙ single_is x s t
inside-single (x ∷ y ∷ m) s t k n e = absurd (omega arith)

pub inside-here : (m s t : List ℕ) (p : ℕ) → p < length s → Passed m (s ++ t) p
    → starts m (take (length s - p) (drop p s) ++ t) ≡ true → p ≡ min (find m (s ++ t)) (length s)
inside-here m s t p l h e =
    let q = passed_here m (s ++ t) p (sym (place_is m s t p (omega arith)) ∙ e) h in
    omega arith

pub inside-next : (m s t : List ℕ) (p k : ℕ) → 0 < length m → p < length s → Passed m (s ++ t) p
    → starts m (take (length s - p) (drop p s) ++ t) ≡ false
    → k ≡ find (get_or m 0 0 ∷ []) (take (length s - (p + 1)) (drop (p + 1) s))
    → (p + 1 + k ≤ length s) × Passed m (s ++ t) (p + 1 + k)
inside-next m s t p k n l h e f =
    let q = passed-one m (s ++ t) p (omega (arith, length-append s t)) (sym (place_is m s t p (omega arith)) ∙ e) h in
    let g = rw part-drop at f in
    (byte-within (get_or m 0 0) s (p + 1) k (omega arith) g, passed-byte m s t (p + 1) k n (omega arith) q g)

pub inside-end : (m s t : List ℕ) (p : ℕ) → p ≡ length s → Passed m (s ++ t) p → p ≡ min (find m (s ++ t)) (length s)
inside-end m s t p e h = omega arith

find-behind : (m s t : List ℕ) → length s ≤ find m (s ++ t) → find m (s ++ t) ≡ length s + find m t
unfolding find
find-behind m [] t h = omega arith
find-behind m (x ∷ s) t h =
    test (starts m (x ∷ (s ++ t)))
    (λ q. let k = rw q at h in absurd (omega arith))
    (λ q. let k = rw q at h in rw q (omega (arith, find-behind m s t (omega arith))))

pub inside_both : (m s t : List ℕ) (p q : ℕ) → p ≡ min (find m (s ++ t)) (length s) → length s ≤ p
    → q ≡ min (find m (t ++ take 0 t)) (length t) → p + q ≡ find m (s ++ t)
inside_both m s t p q e l f =
    let g = rw append-nil at f in
    omega (arith, find-behind m s t (omega arith), find-fits m t)
