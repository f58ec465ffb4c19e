-- What a directory holds (specs/Directory), for its functions and for those who fill one and search in it.
--     slot-from slot-to                 where the slot of a hash can be
--     free-is free-none                 the free slot, of the parts that are handed on
--     none-held                         with no entry, nothing is asked of the slots
--     cleared                           zeros in the place of the slots
--     full no_slot                      a directory that takes no entry more
--     added-here                        one entry more; what was reached before is reached after it
--     same-part                         the 35 bytes at a place are those of its serial number
--     ahead-first ahead-empty ahead-found ahead-next ahead-end   the search from slot to slot
-- Writing keys and starts leaves the slots as they are. An entry is written only into an empty slot, or what stands there,
-- so the entries before it are reached as they were.
-- Assumes nothing.
use Prim.Native.Nat.{ℕ, ◌+◌, ◌-◌, ◌≤◌, ◌<◌}
use mathlib.Core.Bool.{Bool, true, false, ◌||◌}
use mathlib.Core.Path.{◌≡◌, refl, sym, ap, ◌∙◌}
use mathlib.Core.List.{List, [], ◌∷◌}
use native.Mathlib.Omega.{arith}
use native.Mathlib.Numerals.{add-one}
use lib.Dec.{eqb, leb, ltb}
use lib.ListN.{length, take, drop, get_or, set, replicate, length-drop, length-set, drop_of_length-le}
use lib.Seq.{take_all, take-take, drop-cons, drop-set-lt, drop-set-add, get_or-drop, get_or-set_same, get_or-set_other, set-get_or}
use borrow.Rule.Slice.PartMut.{put_mid}
use Rattle.std.proofs.Common.{rules}
use Rattle.std.proofs.lemmas.List.{places, get_or-replicate, get_or_past}
use borrow.Author.Tests.{eqb-true, ltb-true, ltb-false, leb-true, le-leb}
use Rattle.metafile.specs.Bytes.{part, is_zero, same}
use Rattle.metafile.specs.Fields.{same_serial}
use Rattle.laws.proofs.First.{test, untrue, or-true, and_both, is_zero-zero, is_zero-is, is_zero-not}
use Rattle.index.specs.Index.{hash_of, first_of, size, reached}
use Rattle.index.proofs.Laws.{same-hash, first-has, first-entered, reached-set, sized}
use Rattle.directory.specs.Directory.{key_no, start_no, serial_no, slot_for, Directory, Empty, Added, Sought}
use Rattle.directory.specs.Inner.{free_for, is_entry}

-- ---- slots

pub slot-from : (h : ℕ) → 104000 ≤ slot_for h
unfolding slot_for
slot-from h = omega arith

pub slot-to : (h : ℕ) → slot_for h < 196003
unfolding slot_for
slot-to h = omega arith

first-inside : (t : ℕ) (xs : List ℕ) → first_of t xs ≤ length xs
unfolding first_of
first-inside t [] = omega arith
first-inside t (x ∷ xs) =
    let h = first-inside t xs in
    test (is_zero x || eqb x t) (λ q. rw q (omega arith)) (λ q. rw q (omega arith))

pub free-inside : (e h : ℕ) (d : List ℕ) → length d ≡ size → free_for e h d ≤ length d
unfolding free_for
free-inside e h d l =
    omega (arith, first-inside e (drop (slot_for h) d), length-drop (slot_for h) d, slot-to h, l, sized)

-- s is the slot of the hash, f the first entry from there on, in the part of the array that is handed on
module _ (e h : ℕ) (d : List ℕ) (s f : ℕ) (slot_is : s ≡ slot_for h) where
  abbrev rest : List ℕ
  rest = take (length d - s) (drop s d)

  rest-is : rest ≡ drop s d
  rest-is = take_all (length d - s) (drop s d) (rw length-drop (omega arith))

  pub free-is : (f ≡ first_of e rest) × (f < length rest) → (s + f ≡ free_for e h d) × (s + f < length d)
  unfolding free_for
  free-is q = (rw (← slot_is, ← (q.0 ∙ ap (first_of e) rest-is)), omega (arith, q.1, ap length rest-is, length-drop s d))

  pub free-none : length d ≡ size → first_of e rest ≡ length rest → free_for e h d ≡ length d
  unfolding free_for
  free-none l q =
      let r = rest-is in
      let n : first_of e (drop s d) ≡ length (drop s d) = rw r at q in
      rw (← slot_is, n, length-drop) (omega (arith, slot-to h, l, sized))

-- ---- an empty directory

pub none-held : (file d : List ℕ) → Empty d → Directory file 0 d
none-held file d w =
    record { long = w.long; few = omega arith; inside = λ j l. absurd (omega arith); reach = λ j l. absurd (omega arith) }

-- zeros from a place on
zeros-at : (d : List ℕ) (a i : ℕ) → a ≤ length d → a ≤ i
    → get_or (put_mid a (length d - a) d (replicate (length d - a) 0)) i 0 ≡ 0
zeros-at d a i l h = grind (arith, places, get_or-replicate, get_or_past)

zeros-long : (d : List ℕ) (a : ℕ) → a ≤ length d → length (put_mid a (length d - a) d (replicate (length d - a) 0)) ≡ length d
zeros-long d a l = search (rules, places)

pub cleared : (d zeros : List ℕ) → length d ≡ size → zeros ≡ replicate (length d - 104000) 0
    → Empty (put_mid 104000 (length d - 104000) d zeros)
unfolding size
cleared d zeros l e =
    rw e record { long = zeros-long d 104000 (omega arith) ∙ l; slots = λ i h. zeros-at d 104000 i (omega arith) h }

-- the first slot of an empty directory is free
empty-free : (e h : ℕ) (d : List ℕ) → Empty d → free_for e h d < length d
unfolding free_for first_of
empty-free e h d w =
    let s = slot_for h in
    let l : s < length d = omega (arith, slot-to h, w.long, sized) in
    rw (drop-cons d s 0 l, is_zero-is (get_or d s 0) (w.slots s (slot-from h))) (omega arith)

-- ---- one entry more

module _ (file d : List ℕ) (key start n : ℕ) (w : Directory file n d) where
  pub added-not : (n ≡ 0 → Empty d → ⊥) → Added file key start n d n d
  added-not f =
      record {
        holds = w;
        more = (omega arith, omega arith);
        kept = λ j l. (refl, refl);
        new = λ e. absurd (omega arith);
        begins = λ z e. absurd (f z e);
      }

  pub full : n ≡ 52000 → Added file key start n d n d
  full e = added-not (λ z q. omega arith)

  pub no_slot : (h : ℕ) → free_for (n + 1) h d ≡ length d → Added file key start n d n d
  no_slot h e = added-not (λ z q. omega (arith, empty-free (n + 1) h d q))

  module _ (fits : key + 38 ≤ length file) (below : n < 52000) (p : ℕ)
      (at : p ≡ free_for (n + 1) (hash_of (part key 38 file)) d) (free : p < length d) where
    abbrev s : ℕ
    s = slot_for (hash_of (part key 38 file))

    -- key and start written; the slot too
    abbrev low : List ℕ
    low = set (set d n key) (52000 + n) start

    abbrev all : List ℕ
    all = set low p (n + 1)

    slot-high : 104000 ≤ p
    unfolding free_for
    slot-high = omega (arith, slot-from (hash_of (part key 38 file)), at)

    room_for : 197126 ≤ length d
    room_for = omega (arith, w.long, sized)

    all-long : length all ≡ length d
    all-long = simp length-set

    -- the slots are as they were
    low-drop : (k : ℕ) → 104000 ≤ k → drop k low ≡ drop k d
    low-drop k h = drop-set-lt k (set d n key) (52000 + n) start (omega arith) ∙ drop-set-lt k d n key (omega arith)

    low-at : get_or low p 0 ≡ get_or d p 0
    low-at =
        get_or-set_other (set d n key) (52000 + n) p start 0 (λ e. omega (arith, slot-high))
        ∙ get_or-set_other d n p key 0 (λ e. omega (arith, slot-high))

    -- an entry below the slots that is not written
    low-other : (j : ℕ) → j < 104000 → (j ≡ n → ⊥) → (j ≡ 52000 + n → ⊥) → get_or all j 0 ≡ get_or d j 0
    low-other j h a b =
        get_or-set_other low p j (n + 1) 0 (λ e. omega (arith, slot-high))
        ∙ get_or-set_other (set d n key) (52000 + n) j start 0 b
        ∙ get_or-set_other d n j key 0 a

    key_here : key_no all n ≡ key
    key_here =
        get_or-set_other low p n (n + 1) 0 (λ e. omega (arith, slot-high))
        ∙ get_or-set_other (set d n key) (52000 + n) n start 0 (λ e. omega arith)
        ∙ get_or-set_same d n key 0 (omega (arith, room_for))

    start-here : start_no all n ≡ start
    start-here =
        get_or-set_other low p (52000 + n) (n + 1) 0 (λ e. omega (arith, slot-high))
        ∙ get_or-set_same (set d n key) (52000 + n) start 0 (simp length-set (omega (arith, room_for)))

    key-kept : (j : ℕ) → j < n → key_no all j ≡ key_no d j
    key-kept j l = low-other j (omega arith) (λ e. omega arith) (λ e. omega arith)

    start-kept : (j : ℕ) → j < n → start_no all j ≡ start_no d j
    start-kept j l = low-other (52000 + j) (omega arith) (λ e. omega arith) (λ e. omega arith)

    -- the slot is empty, or is the new entry's already
    slot_has : (is_zero (get_or d p 0) || eqb (get_or d p 0) (n + 1)) ≡ true
    unfolding free_for
    slot_has =
        rw (at, ← get_or-drop s d (first_of (n + 1) (drop s d)) 0)
        (first-has (n + 1) (drop s d) (rw length-drop (omega (arith, at, free))))

    reached-kept : (t h : ℕ) → reached t (drop (slot_for h) d) ≡ true → reached t (drop (slot_for h) all) ≡ true
    reached-kept t h e =
        let k = slot_for h in
        let e' : reached t (drop k low) ≡ true = rw (low-drop k (slot-from h)) e in
        or-true (is_zero (get_or d p 0)) (eqb (get_or d p 0) (n + 1)) slot_has
        (λ q. reached-set t (n + 1) k p low (low-at ∙ is_zero-zero (get_or d p 0) q) e')
        (λ q. rw (ap (set low p) (sym (low-at ∙ eqb-true (get_or d p 0) (n + 1) q)) ∙ set-get_or low p 0) e')

    reached-here : reached (n + 1) (drop s all) ≡ true
    unfolding free_for
    reached-here =
        let f = first_of (n + 1) (drop s d) in
        rw (at, drop-set-add s low f (n + 1), low-drop s (slot-from (hash_of (part key 38 file))))
        (first-entered (n + 1) (drop s d) (omega arith) (rw length-drop (omega (arith, at, free))))

    -- an entry before, or the new one
    either : (P : ℕ → Type 0) (j : ℕ) → j < n + 1 → (j < n → P j) → P n → P j
    either P j l f g =
        test (ltb j n)
        (λ q. f (ltb-true j n q))
        (λ q. let e : j ≡ n = omega (arith, ltb-false j n q) in rw e g)

    more-held : Directory file (n + 1) all
    more-held =
        record {
          long = all-long ∙ w.long;
          few = omega arith;
          inside = λ j l.
              either (λ i. key_no all i + 38 ≤ length file) j l
              (λ q. rw (key-kept j q) (w.inside j q))
              (rw key_here fits);
          reach = λ j l.
              either (λ i. reached (i + 1) (drop (slot_for (hash_of (serial_no file all i))) all) ≡ true) j l
              (λ q. rw (key-kept j q) (reached-kept (j + 1) (hash_of (serial_no file d j)) (w.reach j q)))
              (rw key_here reached-here);
        }

    pub added-here : Added file key start n d (n + 1) all
    added-here =
        record {
          holds = more-held;
          more = (omega arith, omega arith);
          kept = λ j l. (key-kept j l, start-kept j l);
          new = λ e. (key_here, start-here);
          begins = λ z q. omega arith;
        }

-- ---- an entry with the serial number

-- 35 bytes of the 38
pub same-part : (file serial : List ℕ) (key : ℕ)
    → same (take (key + 35 - key) (drop key file)) (take 35 serial) ≡ same_serial (part key 38 file) serial
unfolding same_serial
same-part file serial key =
    let n : key + 35 - key ≡ 35 = omega arith in
    rw (n, take-take 35 38 (drop key file) (omega arith))

-- ---- the search

-- one slot on, at the slot i
reached-cons : (t i : ℕ) (d : List ℕ) → i < length d → (get_or d i 0 ≡ 0 → ⊥)
    → reached t (drop i d) ≡ (eqb (get_or d i 0) t || reached t (drop (i + 1) d))
unfolding reached
reached-cons t i d l z = rw (drop-cons d i 0 l, is_zero-not (get_or d i 0) z, add-one)

reached-none : (t i : ℕ) (d : List ℕ) → i < length d → get_or d i 0 ≡ 0 → reached t (drop i d) ≡ false
unfolding reached
reached-none t i d l z = rw (drop-cons d i 0 l, is_zero-is (get_or d i 0) z)

reached-end : (t i : ℕ) (d : List ℕ) → length d ≤ i → reached t (drop i d) ≡ false
unfolding reached
reached-end t i d l = rw (drop_of_length-le d l)

-- each of n entries that has this serial number is reached in the slots that are left
pub record Ahead (file d : List ℕ) (n : ℕ) (serial slots : List ℕ) : Type 0 where
  pub reach : (j : ℕ) → j < n → same_serial (serial_no file d j) serial ≡ true → reached (j + 1) slots ≡ true

module _ {file d : List ℕ} {n : ℕ} {serial : List ℕ} where
  pub ahead-first : Directory file n d → (s : ℕ) → s ≡ slot_for (hash_of serial) → Ahead file d n serial (take (length d - s) (drop s d))
  ahead-first w s e =
      let slot_is : slot_for (hash_of serial) ≡ s = sym e in
      rw (rest-is 0 (hash_of serial) d s 0 e)
      record { reach = λ j l q. rw (same-hash (serial_no file d j) serial q, slot_is) at (w.reach j l) }

  module _ (slots : List ℕ) (i : ℕ) (w : Ahead file d n serial (drop i slots)) where
    sought-none : ((t : ℕ) → reached t (drop i slots) ≡ false) → Sought file d n serial 0
    sought-none f =
        record {
          few = omega arith;
          found = λ l. absurd (omega arith);
          all = λ j l q. untrue (sym (f (j + 1)) ∙ w.reach j l q);
        }

    pub ahead-end : length slots ≤ i → Sought file d n serial 0
    ahead-end l = sought-none (λ t. reached-end t i slots l)

    module _ (l : i < length slots) where
      pub ahead-empty : get_or slots i 0 ≡ 0 → Sought file d n serial 0
      ahead-empty z = sought-none (λ t. reached-none t i slots l z)

      -- r says whether the entry in the slot has the serial number
      module _ (z : get_or slots i 0 ≡ 0 → ⊥) (r : Bool) (is : r ≡ is_entry file d n serial (get_or slots i 0)) where
        pub ahead-found : r ≡ true → Sought file d n serial (get_or slots i 0 - 1 + 1)
        unfolding is_entry
        ahead-found q =
            let e = get_or slots i 0 in
            let h = and_both (leb e n) (same_serial (serial_no file d (e - 1)) serial) (sym is ∙ q) in
            let back : e - 1 + 1 ≡ e = omega arith in
            rw back record { few = leb-true e n h.0; found = λ k. h.1; all = λ j k x. omega arith }

        this : (j : ℕ) → j < n → same_serial (serial_no file d j) serial ≡ true → get_or slots i 0 ≡ j + 1 → r ≡ true
        unfolding is_entry
        this j k q x =
            let one : j + 1 - 1 ≡ j = omega arith in
            is ∙ rw (x, one, le-leb (j + 1) n (omega arith)) q

        pub ahead-next : r ≡ false → Ahead file d n serial (drop (i + 1) slots)
        ahead-next f =
            record {
              reach = λ j k q.
                  or-true (eqb (get_or slots i 0) (j + 1)) (reached (j + 1) (drop (i + 1) slots))
                  (sym (reached-cons (j + 1) i slots l z) ∙ w.reach j k q)
                  (λ x. untrue (sym f ∙ this j k q (eqb-true (get_or slots i 0) (j + 1) x)))
                  (λ x. x);
            }
