-- Laws of lists of bytes: equal bytes, a test over all bytes, parts, members, padding, the first place of a mark.
--     same-eq same_refl same_not   equal bytes; all_append all-weaken all_take all_drop all-at: a test over all bytes
--     part-local drop-take         a part that ends inside is the same with more bytes behind, or fewer
--     length-padded                padding
--     starts-local starts-fits find-local find-least find-fits   the first place of a mark
-- Assumes nothing.
use Prim.Native.Nat.{ℕ, zero, suc, ◌+◌, ◌≤◌, ◌<◌}
use mathlib.Core.Bool.{Bool, true, false, ◌&&◌}
use mathlib.Core.Path.{◌≡◌, refl, sym, ap, ◌∙◌}
use mathlib.Core.List.{List, [], ◌∷◌, ◌++◌}
use native.Mathlib.Omega.{arith}
use lib.Dec.{eqb}
use lib.ListN.{length, take, drop, get_or, length-append, length-take, length-drop, length-replicate}
use lib.Seq.{take_all, take-append-le, drop-append-le}
use borrow.Author.Tests.{eqb-true, eq-eqb}
use Rattle.metafile.specs.Bytes.{part, all, same, member, starts, find}
use Rattle.metafile.specs.Fields.{padded}
use Rattle.laws.proofs.First.{test, untrue, and_both, both-and, or-true}

-- ---- equal bytes

pub same-eq : (a b : List ℕ) → same a b ≡ true → a ≡ b
unfolding same
same-eq [] [] e = refl
same-eq [] (y ∷ ys) e = untrue e
same-eq (x ∷ xs) [] e = untrue e
same-eq (x ∷ xs) (y ∷ ys) e =
    let h = and_both (eqb x y) (same xs ys) e in
    let p : x ≡ y = eqb-true x y h.0 in
    let q : xs ≡ ys = same-eq xs ys h.1 in
    cc

pub same_refl : (a : List ℕ) → same a a ≡ true
unfolding same
same_refl [] = refl
same_refl (x ∷ xs) = both-and (eqb x x) (same xs xs) (eq-eqb x x refl) (same_refl xs)

pub same_not : (a b : List ℕ) → same a b ≡ false → a ≡ b → ⊥
same_not a b e p = untrue (sym e ∙ rw p (same_refl b))

-- ---- a test over all bytes

pub all_append : (p : ℕ → Bool) (a b : List ℕ) → all p a ≡ true → all p b ≡ true → all p (a ++ b) ≡ true
unfolding all
all_append p [] b e f = f
all_append p (x ∷ xs) b e f =
    let h = and_both (p x) (all p xs) e in
    both-and (p x) (all p (xs ++ b)) h.0 (all_append p xs b h.1 f)

pub all-weaken : (p q : ℕ → Bool) (a : List ℕ) → ((x : ℕ) → p x ≡ true → q x ≡ true) → all p a ≡ true → all q a ≡ true
unfolding all
all-weaken p q [] h e = refl
all-weaken p q (x ∷ xs) h e =
    let k = and_both (p x) (all p xs) e in
    both-and (q x) (all q xs) (h x k.0) (all-weaken p q xs h k.1)

pub all_take : (p : ℕ → Bool) (k : ℕ) (s : List ℕ) → all p s ≡ true → all p (take k s) ≡ true
unfolding all
all_take p zero s h = refl
all_take p (suc k) [] h = refl
all_take p (suc k) (x ∷ s) h =
    let both = and_both (p x) (all p s) h in
    both-and (p x) (all p (take k s)) both.0 (all_take p k s both.1)

pub all_drop : (p : ℕ → Bool) (k : ℕ) (s : List ℕ) → all p s ≡ true → all p (drop k s) ≡ true
unfolding all
all_drop p zero s h = h
all_drop p (suc k) [] h = refl
all_drop p (suc k) (x ∷ s) h = all_drop p k s (and_both (p x) (all p s) h).1

pub all-at : (p : ℕ → Bool) (s : List ℕ) (i : ℕ) → i < length s → all p s ≡ true → p (get_or s i 0) ≡ true
unfolding all
all-at p [] i l h = absurd (omega arith)
all-at p (x ∷ s) zero l h = (and_both (p x) (all p s) h).0
all-at p (x ∷ s) (suc i) l h = all-at p s i (omega arith) (and_both (p x) (all p s) h).1

-- ---- members

-- what holds of all of a list of runs of bytes holds of a member
unfoldable pub all_of : (List ℕ → Bool) → List (List ℕ) → Bool
all_of p [] = true
all_of p (y ∷ ys) = p y && all_of p ys

pub member-all : (p : List ℕ → Bool) (x : List ℕ) (ys : List (List ℕ)) → all_of p ys ≡ true → member x ys ≡ true → p x ≡ true
unfolding all_of member
member-all p x [] a e = untrue e
member-all p x (y ∷ ys) a e =
    let h = and_both (p y) (all_of p ys) a in
    or-true (same x y) (member x ys) e (λ q. rw (same-eq x y q) h.0) (λ q. member-all p x ys h.1 q)

-- ---- parts

pub part-local : (p n : ℕ) (s t : List ℕ) → p + n ≤ length s → part p n (s ++ t) ≡ part p n s
part-local p n s t h =
    let hp : p ≤ length s = omega arith in
    let hn : n ≤ length (drop p s) = simp length-drop (omega arith) in
    rw (drop-append-le p s t hp) (take-append-le n (drop p s) t hn)

pub part-long : (s : List ℕ) (p n : ℕ) → p + n ≤ length s → length (part p n s) ≡ n
part-long s p n h = simp (length-take, length-drop) (omega arith)

pub drop-take : (p n : ℕ) (s : List ℕ) → drop p (take (p + n) s) ≡ take n (drop p s)
drop-take zero n s = let k : zero + n ≡ n = omega arith in rw k
drop-take (suc p) n [] = let k : suc p + n ≡ suc (p + n) = omega arith in rw (k, take_all {A = ℕ} n [] (omega arith))
drop-take (suc p) n (x ∷ xs) = let k : suc p + n ≡ suc (p + n) = omega arith in rw k (drop-take p n xs)

-- ---- padding

pub length-padded : (n : ℕ) (t : List ℕ) → length t ≤ n → length (padded n t) ≡ n
unfolding padded
length-padded n t h = simp (length-append, length-replicate) (omega arith)

-- ---- the first place of a mark

pub starts-local : (m s t : List ℕ) → length m ≤ length s → starts m (s ++ t) ≡ starts m s
unfolding starts
starts-local m s t h = rw (take-append-le (length m) s t h)

-- a mark has room where it stands
pub starts-fits : (m s : List ℕ) → starts m s ≡ true → length m ≤ length s
unfolding starts
starts-fits m s e =
    let a : length (take (length m) s) ≡ length m = ap length (same-eq (take (length m) s) m e) in
    omega (arith, length-take (length m) s)

pub find-nil : (t : List ℕ) → find [] t ≡ 0
unfolding find starts same
find-nil [] = refl
find-nil (x ∷ xs) = refl

-- a mark found whole inside s is found at the same place with more bytes behind
pub find-local : (m s t : List ℕ) → find m s + length m ≤ length s → find m (s ++ t) ≡ find m s
unfolding find
find-local [] [] t h = find-nil t
find-local (y ∷ m) [] t h = absurd (omega arith)
find-local m (x ∷ s) t h =
    let fits : length m ≤ length (x ∷ s) = omega arith in
    rw (starts-local m (x ∷ s) t fits)
    (test (starts m (x ∷ s))
    (λ e. rw e)
    (λ e. let k = rw e at h in rw e (ap suc (find-local m s t (omega arith)))))

-- no place where the mark stands is before the first
pub find-least : (m s : List ℕ) (p : ℕ) → starts m (drop p s) ≡ true → find m s ≤ p
unfolding find
find-least m [] p e = omega arith
find-least m (x ∷ s) zero e = rw e (omega arith)
find-least m (x ∷ s) (suc p) e =
    let h = find-least m s p e in
    test (starts m (x ∷ s)) (λ q. rw q (omega arith)) (λ q. rw q (omega arith))

pub find-fits : (m s : List ℕ) → find m s ≤ length s
unfolding find
find-fits m [] = omega arith
find-fits m (x ∷ s) =
    let h = find-fits m s in
    test (starts m (x ∷ s)) (λ q. rw q (omega arith)) (λ q. rw q (omega arith))
