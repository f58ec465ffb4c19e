-- The index of serial numbers, by what it says of the rows so far (specs/Index, Indexed).
--     indexed-none indexed-empty   an empty index; indexed-more: behind more rows
--     index-long                   how long it is
--     place-empty                  the place of its hash is empty: the serial number is in no row
--     entered-row entered-known    a serial number entered; one that is in a row already
--     indexed-left entered-left    the index left
-- Assumes nothing.
use Prim.Native.Nat.{ℕ, zero, suc, ◌+◌, ◌≤◌, ◌<◌}
use mathlib.Core.Bool.{false}
use mathlib.Core.Path.{◌≡◌, refl, sym, ap, ◌∙◌}
use mathlib.Core.List.{List, [], ◌∷◌, ◌++◌}
use native.Mathlib.Omega.{arith}
use native.Mathlib.Numerals.{add-one}
use lib.ListN.{length, take, set, get_or, replicate, length-set, length-replicate}
use lib.Seq.{get_or-set_same, get_or-set_other}
use Rattle.metafile.specs.declared.Row.{Row}
use Rattle.metafile.specs.Fields.{known}
use Rattle.metafile.specs.Reading.{rows_of, serials_of}
use Rattle.metafile.specs.Append.{row_no}
use Rattle.laws.proofs.First.{untrue}
use Rattle.index.specs.Index.{hash_of, tag_of, size, place_for, near_for, Holds}
use Rattle.index.proofs.Laws.{holds-none, holds_more, holds-count, near-here, place-new}
use Rattle.walk.specs.Ahead.{Known}
use Rattle.walk.specs.Index.{count_of, last_of, left_of, Indexed, Entered}

-- ---- an index

pub indexed-none : (file : List ℕ) (n : ℕ) → Indexed file n (replicate 197126 0)
unfolding serials_of size
indexed-none file n =
    record { long = length-replicate {A = ℕ} 197126 0; there = omega arith; few = λ z. omega arith; holds = λ z. holds-none; begins = λ l. absurd (omega arith) }

pub indexed-empty : (file : List ℕ) (n : ℕ) (index : List ℕ) → index ≡ replicate 197126 0 → Indexed file n index
indexed-empty file n index e = rw e (indexed-none file n)

module _ {file : List ℕ} {n : ℕ} {index : List ℕ} (w : Indexed file n index) where
  pub indexed-more : {k : ℕ} → n ≤ k → Indexed file k index
  indexed-more h =
      record { long = w.long; there = w.there; few = λ z. omega (arith, w.few z); holds = w.holds; begins = λ l. w.begins (omega arith) }

  pub index-long : length index ≡ 197126
  unfolding size
  index-long = w.long

  -- the first i rows are entered
  held : left_of index ≡ 0 → (i : ℕ) → count_of index ≡ i → Holds (serials_of (take i (rows_of file))) index
  held here i full = rw full at (w.holds here)

-- ---- one row more

serials-next : (rows : List Row) (i : ℕ) → i < length rows → serials_of (take (suc i) rows) ≡ serials_of (take i rows) ++ ((row_no rows i).serial ∷ [])
unfolding serials_of row_no
serials-next [] i h = absurd (omega arith)
serials-next (r ∷ rs) zero h = refl
serials-next (r ∷ rs) (suc i) h = ap (λ (l : List (List ℕ)). r.serial ∷ l) (serials-next rs i (omega arith))

-- an index that isn't left, with the first i rows; the place p of the hash r of a serial number x in it
module _ {file : List ℕ} {n i : ℕ} {index : List ℕ} (w : Indexed file n index) (here : left_of index ≡ 0) (full : count_of index ≡ i)
    (x : List ℕ) (r p : ℕ) (hash-is : r ≡ hash_of x) (place_is : p ≡ near_for r index) (l : p < length index) where
  place_here : p ≡ place_for (hash_of x) index
  place_here = near-here (hash_of x) index p (rw hash-is at place_is) l

  pub place-empty : get_or index p 0 ≡ 0 → known x (serials_of (take i (rows_of file))) ≡ false
  place-empty z = place-new (held w here i full) x (rw (← place_here) z)

  -- x is that of row i: its tag t at its place, and the count
  one_more : i < length (rows_of file) → x ≡ (row_no (rows_of file) i).serial → (t : ℕ) → t ≡ tag_of r
      → Indexed file (i + 1) (set (set index p t) 0 (i + 1))
  one_more h is t tag_is =
      let entered = set index (place_for (hash_of x) index) (tag_of (hash_of x)) in
      let same : set index p t ≡ entered = rw (tag_is, hash-is, place_here) in
      let count : count_of (set entered 0 (i + 1)) ≡ i + 1 =
      get_or-set_same entered 0 (i + 1) 0 (rw length-set (omega arith)) in
      let serials : serials_of (take (i + 1) (rows_of file)) ≡ serials_of (take i (rows_of file)) ++ (x ∷ []) =
      rw (add-one, is) (serials-next (rows_of file) i h) in
      let all = holds-count (holds_more (held w here i full) x (rw (← place_here) l)) (i + 1) in
      rw same
      (record {
        long = all.long;
        there = rw count (omega arith);
        few = λ z. rw count (omega arith);
        holds = λ z. rw (count, serials) all;
        begins = λ l. absurd (omega (arith, count));
      })

  pub entered-row : get_or index p 0 ≡ 0 → (t : ℕ) → t ≡ tag_of r → Entered file i x (set (set index p t) 0 (i + 1))
  entered-row z t tag_is =
      record {
        as_row = λ h is. one_more h is t tag_is;
        as-known = λ k. untrue (sym (place-empty z) ∙ k);
      }

-- the serial number is in a row before, and nothing is written
pub entered-known : {file : List ℕ} {i : ℕ} {index : List ℕ} (x : List ℕ) → Indexed file i index → Entered file i x index
entered-known x w = record { as_row = λ h is. indexed-more w (omega arith); as-known = λ k. indexed-more w (omega arith) }

-- ---- the index left

-- n rows are there, and the last of them begins at p
pub indexed-left : (file : List ℕ) (n p k : ℕ) (index : List ℕ) → length index ≡ size → Known file n p
    → Indexed file k (set (set (set index 0 n) 1 p) 197125 1)
unfolding size
indexed-left file n p k index long w =
    let counted = set (set index 0 n) 1 p in
    let many : length counted ≡ 197126 = length-set (set index 0 n) 1 p ∙ length-set index 0 n ∙ long in
    let after = set counted 197125 1 in
    let left : left_of after ≡ 1 = get_or-set_same counted 197125 1 0 (omega (arith, many)) in
    let count : count_of after ≡ n =
    get_or-set_other counted 197125 0 1 0 (λ e. omega arith) ∙ get_or-set_other (set index 0 n) 1 0 p 0 (λ e. omega arith)
    ∙ get_or-set_same index 0 n 0 (rw long (omega arith)) in
    let last : last_of after ≡ p =
    get_or-set_other counted 197125 1 1 0 (λ e. omega arith)
    ∙ get_or-set_same (set index 0 n) 1 p 0 (rw (length-set index 0 n, long) (omega arith)) in
    record {
      long = length-set counted 197125 1 ∙ many;
      there = rw count w.there;
      few = λ z. absurd (omega (arith, left));
      holds = λ z. absurd (omega (arith, left));
      begins = λ l. rw (last, count) (w.begins (omega (arith, count)));
    }

pub entered-left : {file : List ℕ} {i : ℕ} {index : List ℕ} (x : List ℕ) → Indexed file (i + 1) index → Entered file i x index
entered-left x w = record { as_row = λ h is. w; as-known = λ k. w }
