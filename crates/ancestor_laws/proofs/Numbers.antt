-- Which number `ancestors` answers, and what it leaves in the list: each number exactly where its test holds and none before it.
--     number-11 number-13 number-24 number-23 number-18   each number
--     numbers-only untouched   there is no other; a number leaves the list as it was
--     Passed answered          no test holds: the rows are the list's first entries, and the others are kept
--     answered-only            and nowhere else
--     answered-63              where 18 can't be: 63 entries are enough
-- Assumes nothing.
use Prim.Native.Nat.{ℕ, suc, ◌+◌, ◌^◌, ◌≤◌, ◌<◌}
use mathlib.Core.Bool.{Bool, true, false, ◌||◌}
use mathlib.Core.Logic.{◌↔◌}
use mathlib.Core.Path.{◌≡◌, refl, sym, ap, ◌∙◌}
use mathlib.Core.List.{List, [], ◌∷◌}
use native.Mathlib.Omega.{arith}
use lib.Dec.{ltb, eqb}
use lib.ListN.{length, take, drop}
use lib.Seq.{drop-append_seam}
use borrow.Author.Tests.{ltb-true, ltb-false, lt-ltb, le-ltb, leb-true, leb-false, le-leb, lt-leb, eqb-false}
use Rattle.metafile.specs.Bytes.{choose}
use Rattle.metafile.specs.Reading.{rows_of}
use Rattle.metafile.specs.Answers.{result, refused, Test, refuse, first_refusal, over_limit, Outcome, outcome, placed, unless_refused}
use Rattle.metafile.specs.Append.{is_in}
use Rattle.metafile.specs.Ancestors.{ancestor_rows, missing, circular, ancestors_tests, ancestors}
use Rattle.laws.proofs.First.{test, untrue, cases, or-false}
use Rattle.laws.proofs.Accepted.{refusal-first, refusal-next, refusal-none, tests-end, limit-over, limit-under, limit-small, accepted-none}
use Rattle.laws.proofs.Loops.{placed-length, placed-start}
use Rattle.laws.proofs.Outcomes.{outcome-refused, outcome-done}
use Rattle.ancestor_laws.proofs.Listed.{listed-63}

-- ---- tests in their order

-- a number is among those of the tests
unfoldable named : ℕ → List Test → Bool
named n [] = false
named n (t ∷ ts) = eqb n t.number || named n ts

-- a number that no test has isn't answered
refusal-named : (n : ℕ) (ts : List Test) → named (suc n) ts ≡ false → first_refusal ts ≡ suc n → ⊥
unfolding named first_refusal
refusal-named n [] e q = omega arith
refusal-named n (t ∷ ts) e q =
    let none = or-false (eqb (suc n) t.number) (named (suc n) ts) e in
    test t.holds
    (λ h. eqb-false (suc n) t.number none.0 (sym (rw h at q)))
    (λ h. refusal-named n ts none.1 (rw h at q))

-- the number of the first test is answered, and no later test has it: it holds
refusal-here : (n : ℕ) (b : Bool) (ts : List Test) → named (suc n) ts ≡ false → first_refusal (refuse (suc n) b ∷ ts) ≡ suc n → b ≡ true
unfolding first_refusal refuse
refusal-here n true ts e q = refl
refusal-here n false ts e q = absurd (refusal-named n ts e q)

-- another number is answered: the first test doesn't hold
refusal-past : (n m : ℕ) (b : Bool) (ts : List Test) → (n ≡ m → ⊥) → first_refusal (refuse n b ∷ ts) ≡ m → (b ≡ false) × (first_refusal ts ≡ m)
unfolding first_refusal refuse
refusal-past n m true ts h q = absurd (h q)
refusal-past n m false ts h q = (refl, q)

-- a length over the limit, by the test
limit-past : (n : ℕ) → over_limit (n ∷ []) ≡ true → 2 ^ 30 < n
limit-past n e =
    test (ltb (2 ^ 30) n)
    (λ q. ltb-true (2 ^ 30) n q)
    (λ q. untrue (sym (limit-under n (ltb-false (2 ^ 30) n q)) ∙ e))

-- ---- a call that writes, and refuses by a number

module _ (ts : List Test) (buffer vs after : List ℕ) where
  refused-by : (n : ℕ) → first_refusal ts ≡ n → (n ≡ 0 → ⊥) → unless_refused ts buffer (outcome (result vs) after) ≡ outcome (refused n) buffer
  refused-by n e h = sym (outcome-refused ts buffer (outcome (result vs) after) n (sym e) h)

  -- a number comes from a test
  refused-cases : {A : Type 0} (n : ℕ) → (unless_refused ts buffer (outcome (result vs) after)).answer ≡ refused n
      → ((m : ℕ) → n ≡ suc m → first_refusal ts ≡ suc m → A) → A
  unfolding unless_refused choose
  refused-cases n e f =
      cases (first_refusal ts)
      (λ z. let never : result vs ≡ refused n = rw z at e in let no : ◌≡◌ {A = ℕ} 0 1 = cc in absurd (omega arith))
      (λ m z. let is : refused (suc m) ≡ refused n = rw z at e in f m (cc) z)

  refused-only : (n : ℕ) → (unless_refused ts buffer (outcome (result vs) after)).answer ≡ refused n → first_refusal ts ≡ n
  refused-only n e = refused-cases n e (λ m is z. z ∙ sym is)

  refused-named : (n : ℕ) → (unless_refused ts buffer (outcome (result vs) after)).answer ≡ refused n → named n ts ≡ true
  refused-named n e =
      refused-cases n e
      (λ m is z. rw is (test (named (suc m) ts) (λ q. q) (λ q. absurd (refusal-named m ts q z))))

  refused-keeps : (n : ℕ) → (unless_refused ts buffer (outcome (result vs) after)).answer ≡ refused n
      → (unless_refused ts buffer (outcome (result vs) after)).buffer ≡ buffer
  refused-keeps n e =
      refused-cases n e (λ m is z. ap (λ (o : Outcome). o.buffer) (refused-by (suc m) z (λ no. omega arith)))

-- ---- rows put at the start of a list

placed-others : (rows list : List ℕ) → drop (length rows) (placed 0 rows list) ≡ drop (length rows) list
unfolding placed
placed-others rows list = let z : 0 + length rows ≡ length rows = omega arith in rw z (drop-append_seam rows _)

-- ---- the numbers of ancestors

-- neither 11 nor 13 nor 24 nor 23
pub record Passed (file : List ℕ) (k : ℕ) : Type 0 where
  pub small : length file ≤ 2 ^ 30
  pub inside : k < length (rows_of file)
  pub most : length (rows_of file) ≤ 64
  pub no-circle : circular file k ≡ false

-- the answer is the count of rows and of missing dependencies; the rows are the list's first entries, the others are kept
pub record Answered (file : List ℕ) (k : ℕ) (list : List ℕ) : Type 0 where
  pub answer : (ancestors file k list).answer ≡ result (length (ancestor_rows file k) ∷ missing file k ∷ [])
  pub first : take (length (ancestor_rows file k)) (ancestors file k list).buffer ≡ ancestor_rows file k
  pub others : drop (length (ancestor_rows file k)) (ancestors file k list).buffer ≡ drop (length (ancestor_rows file k)) list
  pub long : length (ancestors file k list).buffer ≡ length list

module _ (file : List ℕ) (k : ℕ) (list : List ℕ) where
  -- what is answered where no test holds
  abbrev done : Outcome
  done = outcome (result (length (ancestor_rows file k) ∷ missing file k ∷ [])) (placed 0 (ancestor_rows file k) list)

  -- the last test, and those behind 13
  abbrev last : List Test
  last = refuse 18 (ltb (length list) (length (ancestor_rows file k))) ∷ []

  abbrev behind : List Test
  behind = refuse 24 (ltb 64 (length (rows_of file))) ∷ refuse 23 (circular file k) ∷ last

  done-is : first_refusal (ancestors_tests file k list) ≡ 0 → ancestors file k list ≡ done
  unfolding ancestors
  done-is e = sym (outcome-done (ancestors_tests file k list) list done e)

  from-tests : (n : ℕ) → first_refusal (ancestors_tests file k list) ≡ suc n → (ancestors file k list).answer ≡ refused (suc n)
  unfolding ancestors
  from-tests n e = ap (λ (o : Outcome). o.answer) (refused-by (ancestors_tests file k list) list _ _ (suc n) e (λ z. omega arith))

  to-tests : (n : ℕ) → (ancestors file k list).answer ≡ refused n → first_refusal (ancestors_tests file k list) ≡ n
  unfolding ancestors
  to-tests n e = refused-only (ancestors_tests file k list) list _ _ n e

  -- 11: the file is over the limit
  pub number-11 : (ancestors file k list).answer ≡ refused 11 ↔ 2 ^ 30 < length file
  unfolding ancestors_tests named refuse
  number-11 = (
    λ e. limit-past (length file) (refusal-here 10 _ _ refl (to-tests 11 e)),
    λ h. from-tests 10 (refusal-first 11 _ _ (limit-over (length file) [] h)),
  )

  -- 13: k is no row
  pub number-13 : (ancestors file k list).answer ≡ refused 13 ↔ ((length file ≤ 2 ^ 30) × (length (rows_of file) ≤ k))
  unfolding ancestors_tests named refuse
  number-13 = (
    λ e.
        let a = refusal-past 11 13 _ _ (λ z. omega arith) (to-tests 13 e) in
        (limit-small (length file) [] a.0, leb-true (length (rows_of file)) k (refusal-here 12 _ _ refl a.1)),
    λ h.
        from-tests 12
        (refusal-next 11 _ _ (limit-under (length file) h.0)
        ∙ refusal-first 13 _ _ (le-leb (length (rows_of file)) k h.1)),
  )

  -- neither 11 nor 13: the tests behind them decide
  behind-13 : (n : ℕ) → (11 ≡ n → ⊥) → (13 ≡ n → ⊥) → first_refusal (ancestors_tests file k list) ≡ n
      → (length file ≤ 2 ^ 30) × (k < length (rows_of file)) × (first_refusal behind ≡ n)
  unfolding ancestors_tests
  behind-13 n e11 e13 e =
      let a = refusal-past 11 n _ _ e11 e in
      let b = refusal-past 13 n _ _ e13 a.1 in
      (limit-small (length file) [] a.0, leb-false (length (rows_of file)) k b.0, b.1)

  to-behind : length file ≤ 2 ^ 30 → k < length (rows_of file) → first_refusal (ancestors_tests file k list) ≡ first_refusal behind
  unfolding ancestors_tests
  to-behind small inside =
      refusal-next 11 _ _ (limit-under (length file) small) ∙ refusal-next 13 _ _ (lt-leb (length (rows_of file)) k inside)

  -- 24: "more than 64 rows in the reading .., after 13 and before 23"
  pub number-24 : (ancestors file k list).answer ≡ refused 24
      ↔ ((length file ≤ 2 ^ 30) × (k < length (rows_of file)) × (64 < length (rows_of file)))
  unfolding named refuse
  number-24 = (
    λ e.
        let a = behind-13 24 (λ z. omega arith) (λ z. omega arith) (to-tests 24 e) in
        (a.0, a.1, ltb-true 64 (length (rows_of file)) (refusal-here 23 _ _ refl a.2)),
    λ h. from-tests 23 (to-behind h.0 h.1 ∙ refusal-first 24 _ _ (lt-ltb 64 (length (rows_of file)) h.2)),
  )

  -- 23: "a chain from k comes back to any chunk on it"
  pub number-23 : (ancestors file k list).answer ≡ refused 23
      ↔ ((length file ≤ 2 ^ 30) × (k < length (rows_of file)) × (length (rows_of file) ≤ 64) × (circular file k ≡ true))
  unfolding named refuse
  number-23 = (
    λ e.
        let a = behind-13 23 (λ z. omega arith) (λ z. omega arith) (to-tests 23 e) in
        let b = refusal-past 24 23 _ _ (λ z. omega arith) a.2 in
        (a.0, a.1, ltb-false 64 (length (rows_of file)) b.0, refusal-here 22 _ _ refl b.1),
    λ h.
        from-tests 22
        (to-behind h.0 h.1
        ∙ refusal-next 24 _ _ (le-ltb 64 (length (rows_of file)) h.2)
        ∙ refusal-first 23 _ _ h.3),
  )

  -- none of the four: the list's length decides
  behind-23 : (n : ℕ) → (11 ≡ n → ⊥) → (13 ≡ n → ⊥) → (24 ≡ n → ⊥) → (23 ≡ n → ⊥) → first_refusal (ancestors_tests file k list) ≡ n
      → Passed file k × (first_refusal last ≡ n)
  behind-23 n e11 e13 e24 e23 e =
      let a = behind-13 n e11 e13 e in
      let b = refusal-past 24 n _ _ e24 a.2 in
      let c = refusal-past 23 n _ _ e23 b.1 in
      (record { small = a.0; inside = a.1; most = ltb-false 64 (length (rows_of file)) b.0; no-circle = c.0 }, c.1)

  to_last : Passed file k → first_refusal (ancestors_tests file k list) ≡ first_refusal last
  to_last h =
      to-behind h.small h.inside
      ∙ refusal-next 24 _ _ (le-ltb 64 (length (rows_of file)) h.most)
      ∙ refusal-next 23 _ _ h.no-circle

  -- 18: the list has fewer entries than rows are found
  pub number-18 : (ancestors file k list).answer ≡ refused 18 ↔ (Passed file k × (length list < length (ancestor_rows file k)))
  unfolding named
  number-18 = (
    λ e.
        let h = behind-23 18 (λ z. omega arith) (λ z. omega arith) (λ z. omega arith) (λ z. omega arith) (to-tests 18 e) in
        (h.0, ltb-true (length list) (length (ancestor_rows file k)) (refusal-here 17 _ [] refl h.1)),
    λ h. from-tests 17 (to_last h.0 ∙ refusal-first 18 _ _ (lt-ltb (length list) (length (ancestor_rows file k)) h.1)),
  )

  -- there is no other number
  pub numbers-only : (n : ℕ) → (ancestors file k list).answer ≡ refused n → is_in n (11 ∷ 13 ∷ 24 ∷ 23 ∷ 18 ∷ []) ≡ true
  unfolding ancestors ancestors_tests refuse named is_in
  numbers-only n e = refused-named (ancestors_tests file k list) list _ _ n e

  -- a number leaves the list as it was
  pub untouched : (n : ℕ) → (ancestors file k list).answer ≡ refused n → (ancestors file k list).buffer ≡ list
  unfolding ancestors
  untouched n e = refused-keeps (ancestors_tests file k list) list _ _ n e

  -- no number, where no test holds
  pub answered : Passed file k → length (ancestor_rows file k) ≤ length list → Answered file k list
  answered h room =
      let rows : List ℕ = ancestor_rows file k in
      let is = done-is (to_last h ∙ refusal-next 18 _ _ (le-ltb (length list) (length rows) room) ∙ tests-end) in
      record {
        answer = ap (λ (o : Outcome). o.answer) is;
        first = ap (λ (o : Outcome). take (length rows) o.buffer) is ∙ placed-start rows list;
        others = ap (λ (o : Outcome). drop (length rows) o.buffer) is ∙ placed-others rows list;
        long = ap (λ (o : Outcome). length o.buffer) is ∙ placed-length 0 rows list (omega arith);
      }

  -- and nowhere else
  pub answered-only : (vs : List ℕ) → (ancestors file k list).answer ≡ result vs → Passed file k × (length (ancestor_rows file k) ≤ length list)
  unfolding ancestors
  answered-only vs e =
      let none = accepted-none (ancestors_tests file k list) list _ vs e in
      let h = behind-23 0 (λ z. omega arith) (λ z. omega arith) (λ z. omega arith) (λ z. omega arith) none in
      (h.0, ltb-false (length list) (length (ancestor_rows file k)) (refusal-none 17 _ [] h.1).0)

  -- 63 entries are enough
  pub answered-63 : Passed file k → 63 ≤ length list → Answered file k list
  answered-63 h room = answered h (omega (arith, listed-63 file k h.inside h.most))
