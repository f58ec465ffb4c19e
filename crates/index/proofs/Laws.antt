-- What an index holds (specs/Index, Holds), for a reading that enters the tags of its rows' serial numbers one by one.
--     same-hash      the same serial number has the same hash, however its check is written: all that is used of same_serial
--     one-slot one_tag   so it has one slot and one tag
--     hash-given     the hash of a part of a file
--     sized          how long the array is
--     slot-below     a slot is one of the first 196613
--     first-has first-entered   the first entry that is empty or t; t entered there is reached
--     reached-set    what was reached is reached after an entry into an empty slot
--     near-here      a place that is found is the place of the hash
--     place-new      where the place of its hash is empty, no serial number held is this one
--     holds-none     empty slots hold no serial number
--     holds_more     one serial number more, its tag at its place, where it may stand already
--     holds-count    what the first entry is does not matter
-- The tag of a serial number that is held is reached from its slot before an empty slot; entering writes only into an empty
-- slot, or what stands there, so what was reached before is reached after it.
-- Assumes nothing.
use Prim.Native.Nat.{ℕ, zero, suc, ◌+◌, ◌-◌, ◌≤◌, ◌<◌}
use mathlib.Core.Bool.{true, false, ◌||◌}
use mathlib.Core.Path.{◌≡◌, refl, sym, ap, ◌∙◌}
use mathlib.Core.List.{List, [], ◌∷◌, ◌++◌}
use native.Mathlib.Omega.{arith}
use lib.Dec.{eqb, ltb}
use lib.ListN.{length, take, drop, get_or, set, replicate, length-drop, length-set, length-replicate}
use lib.Seq.{take-take, drop-set-lt, drop-set-add, get_or-drop, set-get_or}
use borrow.Author.Tests.{eqb-true, eq-eqb}
use Rattle.metafile.specs.Bytes.{part, is_zero}
use Rattle.metafile.specs.Fields.{same_serial, known}
use Rattle.laws.proofs.First.{test, untrue, or-true, or_left, or_right, is_zero-zero}
use Rattle.laws.proofs.Lists.{drop-take}
use Rattle.laws.proofs.SameSerial.{same_first}
use Rattle.sums.specs.Lanes.{half_of}
use Rattle.index.specs.Index.{word_at, hash_of, tag_of, slot_of, first_of, size, place_for, near_for, reached, Holds}

-- ---- tags, hashes and slots

tag-some : (h : ℕ) → 0 < tag_of h
unfolding tag_of
tag-some h = omega arith

-- four bytes among the first 35
word_first : (k : ℕ) (x : List ℕ) → k + 4 ≤ 35 → word_at k x ≡ word_at k (take 35 x)
unfolding word_at
word_first k x h =
    let n : 35 ≡ k + (35 - k) = omega arith in
    let four : take 4 (drop k (take 35 x)) ≡ take 4 (drop k x) =
    rw (n, drop-take k (35 - k) x) (take-take 4 (35 - k) (drop k x) (omega arith)) in
    ap half_of (sym four)

pub hash-first : (x : List ℕ) → hash_of x ≡ hash_of (take 35 x)
unfolding hash_of
hash-first x =
    rw (
      ← word_first 0 x (omega arith),
      ← word_first 4 x (omega arith),
      ← word_first 8 x (omega arith),
      ← word_first 12 x (omega arith),
      ← word_first 16 x (omega arith),
      ← word_first 20 x (omega arith),
      ← word_first 24 x (omega arith),
      ← word_first 28 x (omega arith),
      ← word_first 31 x (omega arith),
    )

pub same-hash : (x y : List ℕ) → same_serial x y ≡ true → hash_of x ≡ hash_of y
same-hash x y e = hash-first x ∙ ap hash_of (same_first x y e) ∙ sym (hash-first y)

pub one-slot : (x y : List ℕ) → same_serial x y ≡ true → slot_of (hash_of x) ≡ slot_of (hash_of y)
one-slot x y e = ap slot_of (same-hash x y e)

pub one_tag : (x y : List ℕ) → same_serial x y ≡ true → tag_of (hash_of x) ≡ tag_of (hash_of y)
one_tag x y e = ap tag_of (same-hash x y e)

-- the hash of the 38 bytes at a place, as they are handed on
pub hash-given : (file : List ℕ) (p h : ℕ) → h ≡ hash_of (take (p + 38 - p) (drop p file)) → h ≡ hash_of (part p 38 file)
hash-given file p h e = let n : p + 38 - p ≡ 38 = omega arith in rw n at e

pub slot-below : (h : ℕ) → slot_of h < 196613
unfolding slot_of
slot-below h = omega arith

-- ---- the first entry that is empty or t

-- where t is reached, it is not empty
first-reached : (t : ℕ) (xs : List ℕ) → reached t xs ≡ true → is_zero (get_or xs (first_of t xs) 0) ≡ false
unfolding reached first_of is_zero
first-reached t [] e = untrue e
first-reached t (zero ∷ xs) e = untrue e
first-reached t (suc x ∷ xs) e = test (eqb (suc x) t) (λ q. rw q) (λ q. rw q (first-reached t xs (rw q at e)))

-- it is empty or t, unless it is the end
pub first-has : (t : ℕ) (xs : List ℕ) → first_of t xs < length xs
    → (is_zero (get_or xs (first_of t xs) 0) || eqb (get_or xs (first_of t xs) 0) t) ≡ true
unfolding first_of
first-has t [] l = absurd (omega arith)
first-has t (x ∷ xs) l =
    test (is_zero x || eqb x t)
    (λ q. rw q q)
    (λ q. rw q (first-has t xs (omega (arith, rw q at l))))

-- t entered there is reached
pub first-entered : (t : ℕ) (xs : List ℕ) → 0 < t → first_of t xs < length xs → reached t (set xs (first_of t xs) t) ≡ true
unfolding reached first_of is_zero
first-entered t [] s l = absurd (omega arith)
first-entered zero (x ∷ xs) s l = absurd (omega arith)
first-entered (suc t) (zero ∷ xs) s l = or_left (eqb (suc t) (suc t)) (reached (suc t) xs) (eq-eqb (suc t) (suc t) refl)
first-entered (suc t) (suc x ∷ xs) s l =
    let k = suc t in
    test (eqb (suc x) k)
    (λ q. rw q (or_left (eqb k k) (reached k xs) (eq-eqb k k refl)))
    (λ q. rw q
    (or_right (eqb (suc x) k) (reached k (set xs (first_of k xs) k)) (first-entered k xs s (omega (arith, rw q at l)))))

-- what was reached from any slot on is reached after an entry into an empty one
pub reached-set : (t v k p : ℕ) (xs : List ℕ) → get_or xs p 0 ≡ 0 → reached t (drop k xs) ≡ true → reached t (drop k (set xs p v)) ≡ true
unfolding reached is_zero
reached-set t v zero p [] z e = untrue e
reached-set t v (suc k) p [] z e = untrue e
reached-set t v zero zero (zero ∷ xs) z e = untrue e
reached-set t v zero zero (suc x ∷ xs) z e = absurd (omega arith)
reached-set t v zero (suc p) (zero ∷ xs) z e = untrue e
reached-set t v zero (suc p) (suc x ∷ xs) z e =
    or-true (eqb (suc x) t) (reached t xs) e
    (λ q. or_left (eqb (suc x) t) (reached t (set xs p v)) q)
    (λ q. or_right (eqb (suc x) t) (reached t (set xs p v)) (reached-set t v zero p xs z q))
reached-set t v (suc k) zero (x ∷ xs) z e = e
reached-set t v (suc k) (suc p) (x ∷ xs) z e = reached-set t v k p xs z e

-- ---- the place of a hash

module _ (h : ℕ) (index : List ℕ) where
  -- it is empty or has the tag
  place-has : place_for h index < length index → (is_zero (get_or index (place_for h index) 0) || eqb (get_or index (place_for h index) 0) (tag_of h)) ≡ true
  unfolding place_for
  place-has l =
      rw (← get_or-drop (1 + slot_of h) index (first_of (tag_of h) (drop (1 + slot_of h) index)) 0)
      (first-has (tag_of h) (drop (1 + slot_of h) index) (rw length-drop (omega arith)))

  place-entered : place_for h index < length index → reached (tag_of h) (drop (1 + slot_of h) (set index (place_for h index) (tag_of h))) ≡ true
  unfolding place_for
  place-entered l =
      rw (drop-set-add (1 + slot_of h) index (first_of (tag_of h) (drop (1 + slot_of h) index)) (tag_of h))
      (first-entered (tag_of h) (drop (1 + slot_of h) index) (tag-some h) (rw length-drop (omega arith)))

  place-reached : reached (tag_of h) (drop (1 + slot_of h) index) ≡ true → is_zero (get_or index (place_for h index) 0) ≡ false
  unfolding place_for
  place-reached e =
      rw (← get_or-drop (1 + slot_of h) index (first_of (tag_of h) (drop (1 + slot_of h) index)) 0)
      (first-reached (tag_of h) (drop (1 + slot_of h) index) e)

  -- a place that is near
  pub near-here : (p : ℕ) → p ≡ near_for h index → p < length index → p ≡ place_for h index
  unfolding near_for
  near-here p e l =
      test (ltb (place_for h index) (513 + slot_of h))
      (λ q. rw q at e)
      (λ q. absurd (omega (arith, rw q at e)))

-- ---- what the index holds

known-append : (y x : List ℕ) (serials : List (List ℕ)) → known y (serials ++ x ∷ []) ≡ (known y serials || same_serial y x)
unfolding known
known-append y x [] = test (same_serial y x) (λ q. rw q) (λ q. rw q)
known-append y x (z ∷ zs) = let h = known-append y x zs in test (same_serial y z) (λ q. rw q) (λ q. rw q h)

module _ {serials : List (List ℕ)} {index : List ℕ} (w : Holds serials index) where
  pub place-new : (x : List ℕ) → get_or index (place_for (hash_of x) index) 0 ≡ 0 → known x serials ≡ false
  unfolding is_zero
  place-new x z =
      test (known x serials)
      (λ k. untrue (sym (rw z at (place-reached (hash_of x) index (w.reach x k)))))
      (λ k. k)

  module _ (x : List ℕ) (l : place_for (hash_of x) index < length index) where
    -- whatever was reached
    reached-more : (t s : ℕ) → reached t (drop s index) ≡ true → reached t (drop s (set index (place_for (hash_of x) index) (tag_of (hash_of x)))) ≡ true
    reached-more t s e =
        let p = place_for (hash_of x) index in
        let v = tag_of (hash_of x) in
        or-true (is_zero (get_or index p 0)) (eqb (get_or index p 0) v) (place-has (hash_of x) index l)
        (λ q. reached-set t v s p index (is_zero-zero (get_or index p 0) q) e)
        (λ q. rw (ap (set index p) (sym (eqb-true (get_or index p 0) v q)) ∙ set-get_or index p 0) e)

    pub holds_more : Holds (serials ++ x ∷ []) (set index (place_for (hash_of x) index) (tag_of (hash_of x)))
    holds_more =
        record {
          long = length-set index (place_for (hash_of x) index) (tag_of (hash_of x)) ∙ w.long;
          reach = λ y k.
              or-true (known y serials) (same_serial y x) (rw known-append at k)
              (λ q. reached-more (tag_of (hash_of y)) (1 + slot_of (hash_of y)) (w.reach y q))
              (λ q. rw (same-hash y x q) (place-entered (hash_of x) index l));
        }

  pub holds-count : (n : ℕ) → Holds serials (set index 0 n)
  holds-count n =
      record {
        long = length-set index 0 n ∙ w.long;
        reach = λ x k. rw (drop-set-lt (1 + slot_of (hash_of x)) index 0 n (omega arith)) (w.reach x k);
      }

-- how long the array is
pub sized : size ≡ 197126
unfolding size
sized = refl

pub holds-none : Holds [] (replicate 197126 0)
unfolding size known
holds-none = record { long = length-replicate {A = ℕ} 197126 0; reach = λ x k. untrue k }
