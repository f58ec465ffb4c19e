-- What the list of `ancestors` holds, and what is counted as missing.
--     listed-exactly              a row is listed exactly if it is another row than k and is reached from k
--     listed-rising listed-once   in file order, each one time
--     listed-few listed-63        fewer than the rows; so at most 63 of 64
--     missing_of-few missing-few   no more are missing than there are dependencies
--     missing-none                none is missing exactly if every dependency of k and of the rows that it reaches names a row
-- Assumes nothing.
use Prim.Native.Nat.{ℕ, zero, suc, ◌≤◌, ◌<◌}
use mathlib.Core.Bool.{Bool, true, false, cond, not}
use mathlib.Core.Logic.{◌↔◌}
use mathlib.Core.Path.{◌≡◌, refl}
use mathlib.Core.List.{List, [], ◌∷◌, ◌++◌, append-nil}
use native.Mathlib.Omega.{arith}
use lib.Dec.{leb, ltb, eqb}
use lib.ListN.{length, length-append}
use borrow.Author.Tests.{ltb-true, lt-ltb, leb-false, lt-leb, eqb-true, eqb-false, eq-eqb, ne_eqb, not-true}
use Rattle.metafile.specs.Below.{join_below, sum_below}
use Rattle.metafile.specs.Reading.{rows_of}
use Rattle.metafile.specs.Answers.{flag}
use Rattle.metafile.specs.Append.{row_no, is_in, repeated}
use Rattle.metafile.specs.Calls.{parent_row}
use Rattle.metafile.specs.Ancestors.{reaches, is_ancestor, ancestor_rows, rests_on, missing_of, missing}
use Rattle.laws.proofs.First.{test, untrue, and_both, both-and, or-true, or_left, or_right}
use Rattle.laws.proofs.Below.{sum-most, sum-part, Every, every-join}
use Rattle.ancestor_laws.specs.Chain.{rising}
use Rattle.ancestor_laws.proofs.Reached.{depends-inside, reaches-rows}

-- ---- members

in_left : (k : ℕ) (xs ys : List ℕ) → is_in k xs ≡ true → is_in k (xs ++ ys) ≡ true
unfolding is_in
in_left k [] ys e = untrue e
in_left k (x ∷ xs) ys e =
    or-true (eqb k x) (is_in k xs) e (λ q. or_left _ _ q) (λ q. or_right (eqb k x) _ (in_left k xs ys q))

in_right : (k : ℕ) (xs ys : List ℕ) → is_in k ys ≡ true → is_in k (xs ++ ys) ≡ true
unfolding is_in
in_right k [] ys e = e
in_right k (x ∷ xs) ys e = or_right (eqb k x) _ (in_right k xs ys e)

in-cases : {A : Type 0} (k : ℕ) (xs ys : List ℕ) → is_in k (xs ++ ys) ≡ true → (is_in k xs ≡ true → A) → (is_in k ys ≡ true → A) → A
unfolding is_in
in-cases k [] ys e f g = g e
in-cases k (x ∷ xs) ys e f g =
    or-true (eqb k x) (is_in k (xs ++ ys)) e
    (λ q. f (or_left _ _ q))
    (λ q. in-cases k xs ys q (λ p. f (or_right (eqb k x) _ p)) g)

in_one : (k x : ℕ) → is_in k (x ∷ []) ≡ true → k ≡ x
unfolding is_in
in_one k x e = or-true (eqb k x) false e (λ q. eqb-true k x q) (λ q. untrue q)

one_in : (k : ℕ) → is_in k (k ∷ []) ≡ true
unfolding is_in
one_in k = or_left _ _ (eq-eqb k k refl)

-- ---- lists that rise

-- one more at the end, above all others
rising-end : (xs : List ℕ) (n : ℕ) → Every (λ (x : ℕ). x < n) xs → rising xs ≡ true → rising (xs ++ n ∷ []) ≡ true
unfolding rising Every
rising-end [] n below r = refl
rising-end (x ∷ []) n below r = both-and _ _ (lt-ltb x n below.0) refl
rising-end (x ∷ y ∷ ys) n below r =
    let both = and_both (ltb x y) (rising (y ∷ ys)) r in
    both-and _ _ both.0 (rising-end (y ∷ ys) n below.1 both.1)

-- all that stands behind x is above it
rising-above : (x : ℕ) (xs : List ℕ) (k : ℕ) → rising (x ∷ xs) ≡ true → is_in k xs ≡ true → x < k
unfolding rising is_in
rising-above x [] k r e = untrue e
rising-above x (y ∷ ys) k r e =
    let both = and_both (ltb x y) (rising (y ∷ ys)) r in
    let next : x < y = ltb-true x y both.0 in
    or-true (eqb k y) (is_in k ys) e
    (λ q. rw (eqb-true k y q) next)
    (λ q. omega (arith, rising-above y ys k both.1 q))

rising-rest : (x : ℕ) (xs : List ℕ) → rising (x ∷ xs) ≡ true → rising xs ≡ true
unfolding rising
rising-rest x [] r = refl
rising-rest x (y ∷ ys) r = (and_both (ltb x y) (rising (y ∷ ys)) r).1

-- a list that rises has each number one time
pub rising-once : (xs : List ℕ) → rising xs ≡ true → repeated xs ≡ false
unfolding repeated
rising-once [] r = refl
rising-once (x ∷ xs) r =
    test (is_in x xs)
    (λ q. absurd (omega (arith, rising-above x xs x r q)))
    (λ q. rw q (rising-once xs (rising-rest x xs r)))

-- ---- the numbers below n that pass a test, listed

unfoldable passing : (ℕ → Bool) → ℕ → List ℕ
passing p n = join_below n (λ (i : ℕ). cond (p i) (i ∷ []) [])

module _ (p : ℕ → Bool) where
  -- the next number passes, or it doesn't
  taken : (n : ℕ) → p n ≡ true → passing p (suc n) ≡ passing p n ++ n ∷ []
  unfolding passing join_below
  taken n q = rw q

  left_out : (n : ℕ) → p n ≡ false → passing p (suc n) ≡ passing p n
  unfolding passing join_below
  left_out n q = rw q (append-nil _)

  passing-below : (n : ℕ) → Every (λ (x : ℕ). x < n) (passing p n)
  unfolding passing Every
  passing-below n =
      every-join (λ (x : ℕ). x < n) n (λ (i : ℕ). cond (p i) (i ∷ []) [])
      (λ k h. test (p k) (λ q. rw q (h, tt)) (λ q. rw q tt))

  passing-out : (n i : ℕ) → is_in i (passing p n) ≡ true → (i < n) × (p i ≡ true)
  unfolding passing join_below is_in
  passing-out zero i e = untrue e
  passing-out (suc n) i e =
      test (p n)
      (λ q.
      in-cases i (passing p n) (n ∷ []) (rw q at e)
      (λ m. let h = passing-out n i m in (omega (arith, h.0), h.1))
      (λ m. let is = in_one i n m in (rw is (omega arith), rw is q)))
      (λ q. let h = passing-out n i (rw (left_out n q) at e) in (omega (arith, h.0), h.1))

  passing-in : (n i : ℕ) → i < n → p i ≡ true → is_in i (passing p n) ≡ true
  passing-in zero i h e = absurd (omega arith)
  passing-in (suc n) i h e =
      test (eqb i n)
      (λ q. let is = eqb-true i n q in rw (is, taken n (rw is at e)) (in_right n (passing p n) (n ∷ []) (one_in n)))
      (λ q.
      let before = passing-in n i (omega (arith, eqb-false i n q)) e in
      test (p n) (λ r. rw (taken n r) (in_left i (passing p n) (n ∷ []) before)) (λ r. rw (left_out n r) before))

  passing-rising : (n : ℕ) → rising (passing p n) ≡ true
  unfolding passing join_below rising
  passing-rising zero = refl
  passing-rising (suc n) =
      test (p n)
      (λ q. rw (taken n q) (rising-end (passing p n) n (passing-below n) (passing-rising n)))
      (λ q. rw (left_out n q) (passing-rising n))

  -- at most n of them, and fewer where one does not pass
  passing-few : (n : ℕ) → length (passing p n) ≤ n
  unfolding passing join_below
  passing-few zero = omega arith
  passing-few (suc n) =
      test (p n)
      (λ q. rw (taken n q, length-append (passing p n) (n ∷ [])) (omega (arith, passing-few n)))
      (λ q. rw (left_out n q) (omega (arith, passing-few n)))

  passing-fewer : (n k : ℕ) → k < n → p k ≡ false → length (passing p n) < n
  unfolding passing join_below
  passing-fewer zero k h e = absurd (omega arith)
  passing-fewer (suc n) k h e =
      test (eqb k n)
      (λ q. rw (left_out n (rw (eqb-true k n q) at e)) (omega (arith, passing-few n)))
      (λ q.
      let before = passing-fewer n k (omega (arith, eqb-false k n q)) e in
      test (p n)
      (λ r. rw (taken n r, length-append (passing p n) (n ∷ [])) (omega arith))
      (λ r. rw (left_out n r) (omega arith)))

-- ---- the list

module _ (file : List ℕ) (k : ℕ) where
  -- a row is listed exactly if it is another row than k and is reached from k
  pub listed-exactly : (i : ℕ) → is_in i (ancestor_rows file k) ≡ true ↔ ((i ≡ k → ⊥) × (reaches file k i ≡ true))
  unfolding ancestor_rows is_ancestor passing
  listed-exactly i = (
    λ e.
        let both = and_both (not (eqb i k)) (reaches file k i) (passing-out (is_ancestor file k) (length (rows_of file)) i e).1 in
        (eqb-false i k (not-true _ both.0), both.1),
    λ h.
        passing-in (is_ancestor file k) (length (rows_of file)) i (reaches-rows file k i h.1).1
        (both-and (not (eqb i k)) _ (rw (ne_eqb i k h.0)) h.1),
  )

  -- "in file order"
  pub listed-rising : rising (ancestor_rows file k) ≡ true
  unfolding ancestor_rows passing
  listed-rising = passing-rising (is_ancestor file k) (length (rows_of file))

  -- "each listed one time"
  pub listed-once : repeated (ancestor_rows file k) ≡ false
  listed-once = rising-once (ancestor_rows file k) listed-rising

  -- fewer rows than the reading has, since k is none of them
  pub listed-few : k < length (rows_of file) → length (ancestor_rows file k) < length (rows_of file)
  unfolding ancestor_rows is_ancestor passing
  listed-few h = passing-fewer (is_ancestor file k) (length (rows_of file)) k h (rw (eq-eqb k k refl))

  -- of at most 64 rows at most 63
  pub listed-63 : k < length (rows_of file) → length (rows_of file) ≤ 64 → length (ancestor_rows file k) ≤ 63
  listed-63 h most = omega (arith, listed-few h)

-- ---- dependencies that name no row

-- a sum of no more
sum_less : (n : ℕ) (f g : ℕ → ℕ) → ((i : ℕ) → i < n → f i ≤ g i) → sum_below n f ≤ sum_below n g
unfolding sum_below
sum_less zero f g h = omega arith
sum_less (suc n) f g h = omega (arith, sum_less n f g (λ i l. h i (omega arith)), h n (omega arith))

-- a sum of nothing
sum-none : (n : ℕ) (f : ℕ → ℕ) → ((i : ℕ) → i < n → f i ≡ 0) → sum_below n f ≡ 0
unfolding sum_below
sum-none zero f h = refl
sum-none (suc n) f h = omega (arith, sum-none n f (λ i l. h i (omega arith)), h n (omega arith))

-- one number of a sum that is 0
sum_one : (n : ℕ) (f : ℕ → ℕ) (i : ℕ) → i < n → sum_below n f ≡ 0 → f i ≡ 0
sum_one n f i h e = omega (arith, sum-part f i n h)

flag-most : (b : Bool) → flag b ≤ 1
unfolding flag
flag-most true = omega arith
flag-most false = omega arith

flag-none : (b : Bool) → flag b ≡ 0 → b ≡ false
unfolding flag
flag-none true e = absurd (omega arith)
flag-none false e = refl

module _ (file : List ℕ) where
  -- a row has no more of them than it has dependencies
  pub missing_of-few : (i : ℕ) → missing_of file i ≤ (row_no (rows_of file) i).dependencies
  unfolding missing_of
  missing_of-few i =
      let n : ℕ = length (rows_of file) in
      let d : ℕ = (row_no (rows_of file) i).dependencies in
      omega (arith, sum-most (λ (j : ℕ). flag (leb n (parent_row file i j))) 1 d (λ j h. flag-most _))

  -- no more than all rows together have dependencies
  pub missing-few : (k : ℕ) → missing file k ≤ sum_below (length (rows_of file)) (λ (i : ℕ). (row_no (rows_of file) i).dependencies)
  unfolding missing
  missing-few k =
      sum_less (length (rows_of file)) _ _
      (λ i h. test (rests_on file k i) (λ q. rw q (missing_of-few i)) (λ q. rw q (omega arith)))

  -- none is missing exactly if every dependency of k and of the rows that it reaches names a row
  pub missing-none : (k : ℕ)
      → missing file k ≡ 0
      ↔ ((i j : ℕ) → rests_on file k i ≡ true → j < (row_no (rows_of file) i).dependencies → parent_row file i j < length (rows_of file))
  unfolding missing missing_of flag
  missing-none k =
      let n : ℕ = length (rows_of file) in (
        λ e i j r h.
            let inside : i < n = depends-inside file i j h in
            let own : missing_of file i ≡ 0 = rw r at (sum_one n (λ (x : ℕ). cond (rests_on file k x) (missing_of file x) 0) i inside e) in
            let one : flag (leb n (parent_row file i j)) ≡ 0 = sum_one _ (λ (x : ℕ). flag (leb n (parent_row file i x))) j h own in
            leb-false n (parent_row file i j) (flag-none _ one),
        λ found.
            sum-none n _
            (λ i h.
            test (rests_on file k i)
            (λ q. rw q (sum-none (row_no (rows_of file) i).dependencies _ (λ j l. rw (lt-leb n (parent_row file i j) (found i j q l)))))
            (λ q. rw q)),
      )
