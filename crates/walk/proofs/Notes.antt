-- The values of the rows named, noted row by row (specs/Survey).
--     note-..     one turn of the loop over the values, and its end
--     values-..   the values of the rows below i: none, how many, one row more
--     known-everywhere   a serial number in all rows
--     survey-..   a row passed, and the survey where a cursor stops
-- Assumes nothing.
use Prim.Native.Nat.{ℕ, zero, suc, ◌+◌, ◌≤◌, ◌<◌}
use mathlib.Core.Bool.{Bool, cond}
use mathlib.Core.Path.{◌≡◌, refl, sym, ap, ◌∙◌}
use mathlib.Core.List.{List, [], ◌∷◌, ◌++◌, append_assoc}
use native.Mathlib.Omega.{arith}
use native.Mathlib.Numerals.{add-one}
use lib.Dec.{ltb, eqb}
use lib.ListN.{length, take, drop, set, get_or, replicate, length-set, take-append-drop, drop_of_length-le}
use lib.Seq.{take_all, drop-cons, take-suc, take-suc-set, drop-set-lt}
use borrow.Author.Tests.{eqb-true, eqb-false, eq-eqb, ne_eqb, lt-ltb, le-ltb, ltb-true, ltb-false}
use Rattle.metafile.specs.declared.Row.{Row}
use Rattle.metafile.specs.Fields.{known}
use Rattle.metafile.specs.Header.{header_fault}
use Rattle.metafile.specs.Reading.{rows_of, serials_of}
use Rattle.metafile.specs.Append.{row_no}
use Rattle.laws.proofs.First.{test}
use Rattle.walk.specs.declared.cursor.Cursor.{Cursor}
use Rattle.walk.specs.Walk.{place_after}
use Rattle.walk.specs.Survey.{values_below, noted, survey_of}
use Rattle.walk.proofs.Steps.{row-place, row-end}
use Rattle.walk.proofs.Cursors.{Stops}

-- ---- noted, value by value

module _ (i v : ℕ) (all values rows : List ℕ) (j : ℕ) (so_far : all ≡ take j values ++ noted i v (drop j values) (drop j rows)) where
  -- the values, or the rows named, end
  pub note-values : length values ≤ j → values ≡ all
  unfolding noted
  note-values h =
      let none : drop j values ≡ [] = drop_of_length-le values h in
      sym (take-append-drop j values) ∙ sym (so_far ∙ rw none)

  noted-none : (xs : List ℕ) → noted i v xs [] ≡ xs
  unfolding noted
  noted-none [] = refl
  noted-none (x ∷ xs) = refl

  pub note-rows : length rows ≤ j → values ≡ all
  note-rows h =
      let none : drop j rows ≡ [] = drop_of_length-le rows h in
      sym (take-append-drop j values) ∙ sym (so_far ∙ rw (none, noted-none))

  module _ (h : j < length values) (l : j < length rows) where
    here : all ≡ take j values ++ (cond (eqb (get_or rows j 0) i) v (get_or values j 0) ∷ noted i v (drop (suc j) values) (drop (suc j) rows))
    unfolding noted
    here = so_far ∙ rw (drop-cons values j 0 h, drop-cons rows j 0 l)

    joined : (x : ℕ) (xs ys zs : List ℕ) → xs ++ (x ∷ []) ≡ zs → zs ++ ys ≡ xs ++ (x ∷ ys)
    joined x xs ys zs e = rw (← e, append_assoc)

    -- the values after the turn
    module _ (after : List ℕ) where
      pub note-here : after ≡ set values j v → get_or rows j 0 ≡ i → (length after ≡ length values) × (all ≡ take (j + 1) after ++ noted i v (drop (j + 1) after) (drop (j + 1) rows))
      note-here e q = (
        rw e (length-set values j v),
        here ∙ rw (e, eq-eqb (get_or rows j 0) i q, add-one, drop-set-lt (suc j) values j v (omega arith))
            (sym (joined v (take j values) _ _ (sym (take-suc-set values j v h)))),
      )

      pub note-other : after ≡ values → (get_or rows j 0 ≡ i → ⊥) → (length after ≡ length values) × (all ≡ take (j + 1) after ++ noted i v (drop (j + 1) after) (drop (j + 1) rows))
      note-other e q = (
        ap length e,
        here ∙ rw (e, ne_eqb (get_or rows j 0) i q, add-one)
            (sym (joined (get_or values j 0) (take j values) _ _ (sym (take-suc values j 0 h)))),
      )

-- ---- the values of the rows below i

pub values-none : (n : ℕ) (f : ℕ → ℕ) (ks : List ℕ) → replicate n 0 ≡ values_below n f 0 ks
unfolding values_below
values-none zero f ks = refl
values-none (suc n) f [] = ap (λ (l : List ℕ). 0 ∷ l) (values-none n f [])
values-none (suc n) f (k ∷ ks) = rw (le-ltb k 0 (omega arith)) (ap (λ (l : List ℕ). 0 ∷ l) (values-none n f ks))

values-long : (n : ℕ) (f : ℕ → ℕ) (i : ℕ) (ks : List ℕ) → length (values_below n f i ks) ≡ n
unfolding values_below
values-long zero f i ks = refl
values-long (suc n) f i [] = ap suc (values-long n f i [])
values-long (suc n) f i (k ∷ ks) = ap suc (values-long n f i ks)

pub values-counted : {xs : List ℕ} (n : ℕ) (f : ℕ → ℕ) (i : ℕ) (ks : List ℕ) → xs ≡ values_below n f i ks → n ≡ length xs
values-counted n f i ks e = sym (ap length e ∙ values-long n f i ks)

unnamed : (n : ℕ) (f : ℕ → ℕ) (i j : ℕ) → values_below n f i [] ≡ values_below n f j []
unfolding values_below
unnamed zero f i j = refl
unnamed (suc n) f i j = ap (λ (l : List ℕ). 0 ∷ l) (unnamed n f i j)

one_more : (f : ℕ → ℕ) (i k : ℕ) → cond (eqb k i) (f i) (cond (ltb k i) (f k) 0) ≡ cond (ltb k (i + 1)) (f k) 0
one_more f i k =
    test (eqb k i)
    (λ q.
    let e = eqb-true k i q in
    rw (q, lt-ltb k (i + 1) (omega arith), e))
    (λ q.
    let n = eqb-false k i q in
    test (ltb k i)
    (λ l. rw (q, l, lt-ltb k (i + 1) (omega (arith, ltb-true k i l))))
    (λ l. rw (q, l, le-ltb k (i + 1) (omega (arith, ltb-false k i l)))))

pub values-next : (n : ℕ) (f : ℕ → ℕ) (i : ℕ) (ks : List ℕ) → noted i (f i) (values_below n f i ks) ks ≡ values_below n f (i + 1) ks
unfolding values_below noted
values-next zero f i ks = refl
values-next (suc n) f i [] = ap (λ (l : List ℕ). 0 ∷ l) (unnamed n f i (i + 1))
values-next (suc n) f i (k ∷ ks) = rw (one_more f i k, values-next n f i ks)

-- ---- the survey

-- where row k begins, and where it ends
abbrev pub place_no : List ℕ → ℕ → ℕ
place_no file k = (row_no (rows_of file) k).place

abbrev pub end_no : List ℕ → ℕ → ℕ
end_no file k = (row_no (rows_of file) k).end

module _ (file : List ℕ) (e : header_fault file ≡ 0) (ks : List ℕ) (i : ℕ) where
  module _ (h : i < length (rows_of file)) (values after : List ℕ) (v : ℕ) (noted-is : after ≡ noted i v values ks) where
    pub survey-place : v ≡ place_after file i → values ≡ values_below 16 (place_no file) i ks → after ≡ values_below 16 (place_no file) (i + 1) ks
    survey-place p is =
        let here : v ≡ place_no file i = p ∙ sym (row-place file e i h) in
        noted-is ∙ rw (here, is) (values-next 16 (place_no file) i ks)

    pub survey-end : v ≡ place_after file (i + 1) → values ≡ values_below 16 (end_no file) i ks → after ≡ values_below 16 (end_no file) (i + 1) ks
    survey-end p is =
        let here : v ≡ end_no file i = p ∙ rw add-one (sym (row-end file e i h)) in
        noted-is ∙ rw (here, is) (values-next 16 (end_no file) i ks)

-- a cursor stops behind the last row
pub survey-stopped : {file : List ℕ} {c : Cursor} → Stops file c → (x ks : List ℕ) (b : Bool) (places ends : List ℕ) → b ≡ known x (serials_of (rows_of file))
    → places ≡ values_below 16 (place_no file) c.row ks → ends ≡ values_below 16 (end_no file) c.row ks
    → record {
      count = c.row;
      stop = c.at;
      number = c.number;
      good = c.header.good;
      known = b;
      places = places;
      ends = ends;
    }
    ≡ survey_of file x ks
unfolding survey_of
survey-stopped w x ks b places ends k ps es = rw (w.count, w.stop, w.number_is, w.good-is, k, ps, es)

-- a serial number in all rows
pub known-everywhere : (x : List ℕ) (rows : List Row) (n : ℕ) → length rows ≡ n → known x (serials_of (take n rows)) ≡ known x (serials_of rows)
known-everywhere x rows n e = rw (take_all n rows (omega arith))
