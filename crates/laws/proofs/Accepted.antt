-- The tests of a call: the first that holds, lengths over the limit, and what an accepted call answers.
--     refusal-none   the first refusal is none: the first test doesn't hold, nor do the others
--     refusal-first refusal-next tests-end   the first test holds; it doesn't; there is none left
--     limit-over limit-within limit-under limit-small   a length over the limit; one within it, before others, alone; by the test
--     accepted-..    a call that writes answers a result only where no test holds, and then what was defined
-- Assumes nothing.
use Prim.Native.Nat.{ℕ, suc, ◌≤◌, ◌<◌}
use mathlib.Core.Bool.{Bool, true, false}
use mathlib.Core.Path.{◌≡◌, refl}
use mathlib.Core.List.{List, [], ◌∷◌}
use native.Mathlib.Omega.{arith}
use lib.Dec.{ltb}
use borrow.Author.Tests.{ltb-false, lt-ltb, le-ltb}
use Rattle.metafile.specs.Answers.{result, refused, Test, refuse, first_refusal, limit, over_limit, Outcome, unless_refused}
use Rattle.laws.proofs.First.{cases, or-false, choose-go, choose-stop}

pub refusal-none : (n : ℕ) (b : Bool) (ts : List Test) → first_refusal (refuse (suc n) b ∷ ts) ≡ 0 → (b ≡ false) × (first_refusal ts ≡ 0)
unfolding first_refusal refuse
refusal-none n true ts e = absurd (omega arith)
refusal-none n false ts e = (refl, e)

pub refusal-first : (n : ℕ) (b : Bool) (ts : List Test) → b ≡ true → first_refusal (refuse n b ∷ ts) ≡ n
unfolding first_refusal refuse
refusal-first n b ts e = rw e

pub refusal-next : (n : ℕ) (b : Bool) (ts : List Test) → b ≡ false → first_refusal (refuse n b ∷ ts) ≡ first_refusal ts
unfolding first_refusal refuse
refusal-next n b ts e = rw e

pub tests-end : first_refusal [] ≡ 0
unfolding first_refusal
tests-end = refl

-- ---- 11

pub limit-over : (n : ℕ) (ns : List ℕ) → 1073741824 < n → over_limit (n ∷ ns) ≡ true
unfolding over_limit limit
limit-over n ns h = rw (lt-ltb 1073741824 n h)

pub limit-within : (n : ℕ) (ns : List ℕ) → n ≤ 1073741824 → over_limit (n ∷ ns) ≡ over_limit ns
unfolding over_limit limit
limit-within n ns h = rw (le-ltb 1073741824 n h)

pub limit-under : (n : ℕ) → n ≤ 1073741824 → over_limit (n ∷ []) ≡ false
unfolding over_limit
limit-under n h = limit-within n [] h

pub limit-small : (n : ℕ) (ns : List ℕ) → over_limit (n ∷ ns) ≡ false → n ≤ 1073741824
unfolding over_limit limit
limit-small n ns e = ltb-false 1073741824 n (or-false (ltb 1073741824 n) (over_limit ns) e).0

-- ---- a call that writes

refused≢result : {A : Type 0} (n : ℕ) (vs : List ℕ) → refused n ≡ result vs → A
refused≢result n vs e = let z : ◌≡◌ {A = ℕ} 0 1 = cc in absurd (omega arith)

pub accepted-none : (ts : List Test) (buffer : List ℕ) (done : Outcome) (vs : List ℕ) → (unless_refused ts buffer done).answer ≡ result vs → first_refusal ts ≡ 0
unfolding unless_refused
accepted-none ts buffer done vs e =
    cases (first_refusal ts)
    (λ z. z)
    (λ n z. refused≢result (suc n) vs (rw (z, choose-stop (suc n) done _ (λ q. absurd (omega arith))) at e))

pub accepted-is : (ts : List Test) (buffer : List ℕ) (done : Outcome) (vs : List ℕ) → (unless_refused ts buffer done).answer ≡ result vs → unless_refused ts buffer done ≡ done
unfolding unless_refused
accepted-is ts buffer done vs e = choose-go (first_refusal ts) done _ (accepted-none ts buffer done vs e)
