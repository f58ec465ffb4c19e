-- The loop over the types ("for each type ..") and the short IDs kept.
--     any-member  any of the IDs kept is the same
--     Walk        the loop over the types: at a place, with i of n types passed and their IDs kept
--     walk-..     where it begins, one type on, a type that has a fault, the end
--     types-texts the short IDs of types that have no fault are texts
--     place-..    where types that have no fault end
--     Left        the loop over them that looks for a short ID; left-..: its steps
-- Assumes nothing.
use Prim.Native.Nat.{ℕ, zero, suc, ◌+◌, ◌-◌, ◌≤◌, ◌<◌}
use mathlib.Core.Bool.{Bool, true, false, ◌||◌}
use mathlib.Core.Path.{◌≡◌, refl, sym, ◌∙◌}
use mathlib.Core.List.{List, [], ◌∷◌, ◌++◌, append_assoc, append-nil}
use native.Mathlib.Omega.{arith}
use lib.Dec.{leb, eqb}
use lib.ListN.{length, take, drop, set}
use lib.Seq.{drop-drop}
use Rattle.std.proofs.lemmas.List.{take_more_set}
use Rattle.std.specs.List.{list_any}
use borrow.Author.Tests.{leb-true, eq-eqb, ne_eqb, eqb-true}
use Rattle.metafile.specs.Bytes.{part, is_zero, same, member}
use Rattle.metafile.specs.Lines.{text, Field, fixed, value, lf, lines_of, field_fault, text_fault, kind_fault, fault, sub_format_id, short_id}
use Rattle.metafile.specs.Multi.{type_bytes, type_id, type_fault, multi_length_for, types_fault, types_bytes, type_ids, types_of, multi_length, minis_place, declared_ids, multi_fault, multi_bytes}
use Rattle.laws.proofs.First.{cases, untrue, or-true, and_both, require-true, ⊳-left, ⊳-right, ⊳-stop, ⊳-go}
use Rattle.laws.proofs.Lists.{same-eq}
use Rattle.laws.proofs.Table.{field-own, run_at}
use Rattle.laws.proofs.Distances.{lines}
use Rattle.chunk_laws.proofs.Multi.{multi-whole, multi-enough}
use Rattle.multi.specs.Part.{text_ids}
use Rattle.multi.proofs.TypeStages.{type-fits}

-- ---- the short IDs kept

pub any-member : (id : List ℕ) (ids : List (List ℕ)) → list_any (λ k. same id k) ids ≡ member id ids
unfolding member
any-member id [] = refl
any-member id (k ∷ ids) = rw (any-member id ids)

-- ---- the loop over the types

-- the loop has one more turn
one_more : (n i : ℕ) → i < n → n - i ≡ suc (n - (i + 1))
one_more n i h = omega arith

-- the order of the IDs before a type does not matter
members : (ids js : List (List ℕ)) → Type 0
members ids js = (x : List ℕ) → member x ids ≡ member x js

members-more : (y : List ℕ) (ids js : List (List ℕ)) → members ids js → members (y ∷ ids) (y ∷ js)
unfolding members member
members-more y ids js m x = rw (m x)

members-snoc : (y : List ℕ) (ids : List (List ℕ)) → members (y ∷ ids) (ids ++ y ∷ [])
unfolding members member
members-snoc y [] x = refl
members-snoc y (z ∷ ids) x =
    rw (← members-snoc y ids x) (either (same x y) (same x z) (member x ids))
  where
    either : (a b c : Bool) → (a || (b || c)) ≡ (b || (a || c))
    either true true c = refl
    either true false c = refl
    either false b c = refl

type-members : (last : Bool) (announced before : ℕ) (ids js : List (List ℕ)) (t : List ℕ) → members ids js → type_fault last announced before ids t ≡ type_fault last announced before js t
unfolding members type_fault
type-members last announced before ids js t m = rw (m (type_id t))

types-members : (n announced before : ℕ) (ids js : List (List ℕ)) (t : List ℕ) → members ids js → types_fault n announced before ids t ≡ types_fault n announced before js t
unfolding types_fault
types-members zero announced before ids js t m = refl
types-members (suc n) announced before ids js t m =
    rw (
      type-members (is_zero n) announced before ids js t m,
      types-members n announced (before + type_bytes t) (type_id t ∷ ids) (type_id t ∷ js) (drop (type_bytes t) t) (members-more (type_id t) ids js m),
    )

-- i of the n types from the place 65 on are passed, their IDs kept
pub record Walk (r : List ℕ) (n announced at i : ℕ) (kept : List (List ℕ)) : Type 0 where
  pub from : 65 ≤ at
  pub inside : at ≤ length r
  pub faults : types_fault n announced 0 [] (drop 65 r) ≡ types_fault (n - i) announced (at - 65) (take i kept) (drop at r)
  pub ends : 65 + types_bytes n (drop 65 r) ≡ at + types_bytes (n - i) (drop at r)
  pub declared : type_ids n (drop 65 r) ≡ take i kept ++ type_ids (n - i) (drop at r)

pub walk_begins : (r : List ℕ) (n announced : ℕ) (kept : List (List ℕ)) → 65 ≤ length r → Walk r n announced 65 0 kept
walk_begins r n announced kept h =
    let z : n - 0 ≡ n = omega arith in
    record { from = omega arith; inside = h; faults = rw z; ends = rw z; declared = rw z }

is_last : (n i : ℕ) → i < n → is_zero (n - (i + 1)) ≡ eqb (i + 1) n
unfolding is_zero
is_last n i h =
    cases (n - (i + 1))
    (λ z. rw (z, eq-eqb (i + 1) n (omega arith)))
    (λ k z. rw (z, ne_eqb (i + 1) n (λ q. omega arith)))

pub type-least : (t : List ℕ) → 518 ≤ type_bytes t
unfolding type_bytes
type-least t = omega arith

-- a turn: f is the fault of the type at the place, judged against the length k
module _ {r : List ℕ} {n announced at i : ℕ} {kept : List (List ℕ)} (w : Walk r n announced at i kept) (h : i < n)
    {f k : ℕ} (q : k ≡ announced) (e : f ≡ type_fault (eqb (i + 1) n) k (at - 65) (take i kept) (drop at r)) where
  this-type : f ≡ type_fault (eqb (i + 1) n) announced (at - 65) (take i kept) (drop at r)
  this-type = rw q at e

  pub walk-stops : (f ≡ 0 → ⊥) → types_fault n announced 0 [] (drop 65 r) ≡ f
  unfolding types_fault
  walk-stops z = w.faults ∙ rw (one_more n i h, is_last n i h, ← this-type) (⊳-stop f _ z)

  module _ (z : f ≡ 0) where
    pub this-fits : at + type_bytes (drop at r) ≤ length r
    this-fits = type-fits (eqb (i + 1) n) announced (at - 65) (take i kept) at r w.inside (sym this-type ∙ z)

    next-faults : types_fault (n - i) announced (at - 65) (take i kept) (drop at r)
        ≡ types_fault (n - (i + 1)) announced (at + type_bytes (drop at r) - 65) (type_id (drop at r) ∷ take i kept) (drop (at + type_bytes (drop at r)) r)
    unfolding types_fault
    next-faults =
        let place : at - 65 + type_bytes (drop at r) ≡ at + type_bytes (drop at r) - 65 = omega (arith, w.from) in
        rw (one_more n i h, is_last n i h, ← this-type, z, place, drop-drop (type_bytes (drop at r)) at r) (⊳-go 0 _ refl)

    -- m bytes on, the ID kept
    pub walk-next : (m : ℕ) (id : List ℕ) → m ≡ type_bytes (drop at r) → id ≡ part (at + 324) 10 r → i < length kept
        → Walk r n announced (at + m) (i + 1) (set kept i id)
    unfolding types_bytes type_ids type_id
    walk-next m id b p room =
        let is : id ≡ type_id (drop at r) = p ∙ rw (drop-drop 324 at r) in
        let ids : take (i + 1) (set kept i (type_id (drop at r))) ≡ take i kept ++ type_id (drop at r) ∷ [] = take_more_set kept i _ room in
        rw (b, is) (
        record {
          from = omega (arith, w.from);
          inside = this-fits;
          faults =
              w.faults
              ∙ next-faults
              ∙ rw ids (types-members _ announced _ _ _ _ (members-snoc (type_id (drop at r)) (take i kept)));
          ends = w.ends ∙ rw (one_more n i h, drop-drop (type_bytes (drop at r)) at r) (omega arith);
          declared = w.declared ∙ rw (one_more n i h, ids, drop-drop (type_bytes (drop at r)) at r, append_assoc);
        }
        )

module _ {r : List ℕ} {n announced at i : ℕ} {kept : List (List ℕ)} (w : Walk r n announced at i kept) (h : n ≤ i) where
  all-passed : n - i ≡ 0
  all-passed = omega arith

  pub walk-faults : types_fault n announced 0 [] (drop 65 r) ≡ 0
  unfolding types_fault
  walk-faults = w.faults ∙ rw all-passed

  pub walk_ends : 65 + types_bytes n (drop 65 r) ≡ at
  unfolding types_bytes
  walk_ends = w.ends ∙ rw all-passed (omega arith)

  pub walk-declared : i ≤ n → take n kept ≡ type_ids n (drop 65 r)
  unfolding type_ids
  walk-declared k =
      let same_count : n ≡ i = omega arith in
      sym (w.declared ∙ rw (all-passed, append-nil, same_count))

-- ---- types that have no fault

id-text : (last : Bool) (announced before : ℕ) (ids : List (List ℕ)) (t : List ℕ) → type_fault last announced before ids t ≡ 0 → text_fault (type_id t) ≡ 0
unfolding lines type_fault type_id fault kind_fault
id-text last announced before ids t e =
    let names = ⊳-left _ _ (⊳-right _ _ (⊳-right _ _ (⊳-right _ _ e))) in
    let opening : List Field = lf ∷ lines_of (sub_format_id ∷ []) ++ fixed short_id.label ∷ [] in
    let f : field_fault 10 text_fault (drop 290 (drop 34 t)) ≡ 0 = run_at opening (value (text 10)) [] (drop 34 t) names in
    rw (drop-drop 290 34 t) at (field-own 10 text_fault (drop 290 (drop 34 t)) f)

pub types-texts : (n announced before : ℕ) (ids : List (List ℕ)) (t : List ℕ) → types_fault n announced before ids t ≡ 0 → text_ids (type_ids n t)
unfolding types_fault type_ids member
types-texts zero announced before ids t e v m = untrue m
types-texts (suc n) announced before ids t e v m =
    or-true (same v (type_id t)) _ m
    (λ q. rw (same-eq v (type_id t) q) (id-text (is_zero n) announced before ids t (⊳-left _ _ e)))
    (types-texts n announced (before + type_bytes t) (type_id t ∷ ids) (drop (type_bytes t) t) (⊳-right _ _ e) v)

pub place-fits : (r : List ℕ) → multi_fault r ≡ 0 → minis_place r ≤ length r
unfolding multi_bytes
place-fits r e = omega (arith, multi-enough r (multi-whole r e))

pub place-past : (r : List ℕ) → 65 ≤ minis_place r
unfolding minis_place
place-past r = omega arith

-- "Multi_Chunk_Header_Length at the last SubType_Header_Length"
last-length : (n announced before : ℕ) (ids : List (List ℕ)) (t : List ℕ) → types_fault (suc n) announced before ids t ≡ 0
    → announced ≡ 27 + (before + types_bytes (suc n) t)
unfolding types_fault types_bytes type_fault multi_length_for is_zero
last-length zero announced before ids t e =
    let y = require-true _ 6 (⊳-left _ _ (⊳-right _ _ (⊳-right _ _ (⊳-left _ _ e)))) in
    omega (arith, eqb-true announced (27 + (before + type_bytes t)) y)
last-length (suc n) announced before ids t e =
    omega (arith, last-length n announced (before + type_bytes t) (type_id t ∷ ids) (drop (type_bytes t) t) (⊳-right _ _ e))

pub place_is : (r : List ℕ) → multi_fault r ≡ 0 → minis_place r ≡ 38 + multi_length r
unfolding minis_place
place_is r e =
    let w = multi-whole r e in
    let some = and_both (leb 1 (types_of r)) (leb (types_of r) 64) (require-true _ 6 w.in_count) in
    let one : 1 ≤ types_of r = leb-true 1 (types_of r) some.0 in
    let n : types_of r ≡ suc (types_of r - 1) = omega arith in
    omega (arith, rw (← n) at (last-length (types_of r - 1) (multi_length r) 0 [] (drop 65 r) (rw n at w.in-types)))

-- n types are left from a place on, and a short ID is declared as it is by them
pub record Left (id r : List ℕ) (at n : ℕ) : Type 0 where
  pub inside : at + types_bytes n (drop at r) ≤ length r
  pub by_them : member id (declared_ids r) ≡ member id (type_ids n (drop at r))

pub left-begins : (id r : List ℕ) (n : ℕ) → multi_fault r ≡ 0 → n ≡ types_of r → Left id r 65 (n - 0)
unfolding declared_ids minis_place
left-begins id r n e q =
    let z : n - 0 ≡ n = omega arith in
    record { inside = rw (z, q) (place-fits r e); by_them = rw (z, q) }

-- one more of n types, i of them passed
module _ {id r : List ℕ} {at n i : ℕ} (w : Left id r at (n - i)) (h : i < n) where
  bytes-at : at + types_bytes (n - i) (drop at r) ≡ at + type_bytes (drop at r) + types_bytes (n - (i + 1)) (drop (at + type_bytes (drop at r)) r)
  unfolding types_bytes
  bytes-at = rw (one_more n i h, drop-drop (type_bytes (drop at r)) at r) (omega arith)

  ids_at : type_ids (n - i) (drop at r) ≡ part (at + 324) 10 r ∷ type_ids (n - (i + 1)) (drop (at + type_bytes (drop at r)) r)
  unfolding type_ids type_id
  ids_at = rw (one_more n i h, drop-drop 324 at r, drop-drop (type_bytes (drop at r)) at r)

  pub left-fits : at + type_bytes (drop at r) ≤ length r
  left-fits = omega (arith, w.inside, bytes-at)

  pub left-here : same id (part (at + 324) 10 r) ≡ true → true ≡ member id (declared_ids r)
  unfolding member
  left-here t = sym (w.by_them ∙ rw (ids_at, t))

  pub left-next : {k : ℕ} → k ≡ type_bytes (drop at r) → same id (part (at + 324) 10 r) ≡ false → Left id r (at + k) (n - (i + 1))
  unfolding member
  left-next q t = rw q (record { inside = omega (arith, w.inside, bytes-at); by_them = w.by_them ∙ rw (ids_at, t) })

pub left-none : {id r : List ℕ} {at n i : ℕ} → Left id r at (n - i) → n ≤ i → false ≡ member id (declared_ids r)
unfolding type_ids member
left-none {n = n} {i = i} w h = let z : n - i ≡ 0 = omega arith in sym (w.by_them ∙ rw z)
