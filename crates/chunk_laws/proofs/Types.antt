-- The types of a MultiChunk ("for each type SubType_Header_Length= I12, .."): a loop of known count.
--     stretch-local   a stretch of fields that passes at a place does so with more bytes behind
--     TypeWhole       one type: a field for each stage
--     types-enough    the types lie inside
--     types-local     with more bytes behind: no fault, the same bytes, the same short IDs
-- Assumes nothing.
use Prim.Native.Nat.{ℕ, zero, suc, ◌+◌, ◌≤◌}
use mathlib.Core.Bool.{Bool, not, ◌||◌}
use mathlib.Core.Path.{◌≡◌, refl, ap, ◌∙◌}
use mathlib.Core.List.{List, [], ◌∷◌, ◌++◌}
use native.Mathlib.Omega.{arith}
use lib.Dec.{leb, eqb}
use lib.ListN.{length, drop, length-drop}
use lib.Seq.{drop-append-le}
use Rattle.metafile.specs.Bytes.{require, is_zero, member}
use Rattle.metafile.specs.Fields.{count_value}
use Rattle.metafile.specs.Lines.{free, Field, value, lf, opened, lines_of, size, run, sub_format_id, time_and_event, sub_type_length, short_id}
use Rattle.metafile.specs.Multi.{type_length, type_specific, type_bytes, type_id, multi_length_for, type_fault, types_fault, types_bytes, type_ids}
use Rattle.laws.proofs.First.{⊳-left, ⊳-right, ⊳-both}
use Rattle.laws.proofs.Lists.{part-local}
use Rattle.laws.proofs.Table.{run-enough, run-local}
use Rattle.laws.proofs.Distances.{lines}

-- a stretch that passes at a place does so with more bytes behind
pub stretch-local : (fs : List Field) (p : ℕ) (s t : List ℕ) → p ≤ length s → run fs (drop p s) ≡ 0 → run fs (drop p (s ++ t)) ≡ 0
stretch-local fs p s t h e =
    rw (drop-append-le p s t h, run-local fs (drop p s) t (run-enough fs (drop p s) e)) e

-- ---- one type

-- its stretches: the length, up to the short ID, the rest
unfoldable pub type_names : List Field
type_names = lf ∷ lines_of (sub_format_id ∷ []) ++ opened short_id

unfoldable pub type_rest : ℕ → List Field
type_rest n = lf ∷ lines_of time_and_event ++ value (free n) ∷ []

size-type-length : size (opened sub_type_length) ≡ 34
unfolding lines
size-type-length = refl

size-type-names : size type_names ≡ 300
unfolding lines type_names
size-type-names = refl

size-type-rest : (n : ℕ) → size (type_rest n) ≡ 184 + n
unfolding lines type_rest
size-type-rest n = omega arith

pub record TypeWhole (last : Bool) (announced before : ℕ) (ids : List (List ℕ)) (t : List ℕ) : Type 0 where
  pub in-length : run (opened sub_type_length) t ≡ 0
  pub in-own : require (leb 484 (type_length t)) 7 ≡ 0
  pub in-announced : require (not last || eqb announced (multi_length_for (before + type_bytes t))) 7 ≡ 0
  pub in-names : run type_names (drop 34 t) ≡ 0
  pub in-id : require (not (member (type_id t) ids)) 8 ≡ 0
  pub in_rest : run (type_rest (type_specific t)) (drop 334 t) ≡ 0

module _ (last : Bool) (announced before : ℕ) (ids : List (List ℕ)) (t : List ℕ) where
  type-whole : type_fault last announced before ids t ≡ 0 → TypeWhole last announced before ids t
  unfolding type_fault type_names type_rest
  type-whole e =
      let e2 = ⊳-right _ _ e in
      let e3 = ⊳-right _ _ e2 in
      let e4 = ⊳-right _ _ e3 in
      let e5 = ⊳-right _ _ e4 in
      record {
        in-length = ⊳-left _ _ e;
        in-own = ⊳-left _ _ e2;
        in-announced = ⊳-left _ _ e3;
        in-names = ⊳-left _ _ e4;
        in-id = ⊳-left _ _ e5;
        in_rest = ⊳-right _ _ e5;
      }

  type-unfaulted : TypeWhole last announced before ids t → type_fault last announced before ids t ≡ 0
  unfolding type_fault type_names type_rest
  type-unfaulted w =
      ⊳-both _ _ w.in-length
      (⊳-both _ _ w.in-own (⊳-both _ _ w.in-announced (⊳-both _ _ w.in-names (⊳-both _ _ w.in-id w.in_rest))))

  module _ (w : TypeWhole last announced before ids t) where
    fits-names : 334 ≤ length t
    fits-names =
        let a = rw size-type-length at (run-enough (opened sub_type_length) t w.in-length) in
        let b = simp (length-drop, size-type-names) at (run-enough type_names (drop 34 t) w.in-names) in
        omega arith

    fits-type : type_bytes t ≤ length t
    unfolding type_bytes
    fits-type =
        let a = simp (length-drop, size-type-rest) at (run-enough (type_rest (type_specific t)) (drop 334 t) w.in_rest) in
        omega (arith, fits-names)

    module _ (u : List ℕ) where
      type_length-local : type_length (t ++ u) ≡ type_length t
      unfolding type_length
      type_length-local = ap count_value (part-local 22 12 t u (omega (arith, fits-names)))

      type_specific-local : type_specific (t ++ u) ≡ type_specific t
      unfolding type_specific
      type_specific-local = rw type_length-local

      type_bytes-local : type_bytes (t ++ u) ≡ type_bytes t
      unfolding type_bytes
      type_bytes-local = rw type_specific-local

      type_id-local : type_id (t ++ u) ≡ type_id t
      unfolding type_id
      type_id-local = part-local 324 10 t u fits-names

      type-local : TypeWhole last announced before ids (t ++ u)
      type-local =
          record {
            in-length = run-local (opened sub_type_length) t u (run-enough _ t w.in-length) ∙ w.in-length;
            in-own = rw type_length-local w.in-own;
            in-announced = rw type_bytes-local w.in-announced;
            in-names = stretch-local type_names 34 t u (omega (arith, fits-names)) w.in-names;
            in-id = rw type_id-local w.in-id;
            in_rest = rw type_specific-local (stretch-local (type_rest (type_specific t)) 334 t u fits-names w.in_rest);
          }

-- ---- the types

pub types-enough : (n announced before : ℕ) (ids : List (List ℕ)) (t : List ℕ) → types_fault n announced before ids t ≡ 0 → types_bytes n t ≤ length t
unfolding types_fault types_bytes
types-enough zero announced before ids t e = omega arith
types-enough (suc n) announced before ids t e =
    let w = type-whole (is_zero n) announced before ids t (⊳-left _ _ e) in
    let a = fits-type (is_zero n) announced before ids t w in
    let b = simp length-drop at (types-enough n announced (before + type_bytes t) (type_id t ∷ ids) (drop (type_bytes t) t) (⊳-right _ _ e)) in
    omega arith

-- no fault, their bytes and their short IDs, with more bytes behind
pub record TypesSame (n announced before : ℕ) (ids : List (List ℕ)) (t u : List ℕ) : Type 0 where
  pub no-fault : types_fault n announced before ids (t ++ u) ≡ 0
  pub same_bytes : types_bytes n (t ++ u) ≡ types_bytes n t
  pub same-ids : type_ids n (t ++ u) ≡ type_ids n t

pub types-local : (n announced before : ℕ) (ids : List (List ℕ)) (t u : List ℕ) → types_fault n announced before ids t ≡ 0 → TypesSame n announced before ids t u
unfolding types_fault types_bytes type_ids
types-local zero announced before ids t u e = record { no-fault = refl; same_bytes = refl; same-ids = refl }
types-local (suc n) announced before ids t u e =
    let w = type-whole (is_zero n) announced before ids t (⊳-left _ _ e) in
    let a = fits-type (is_zero n) announced before ids t w in
    let ih = types-local n announced (before + type_bytes t) (type_id t ∷ ids) (drop (type_bytes t) t) u (⊳-right _ _ e) in
    let bytes = type_bytes-local (is_zero n) announced before ids t w u in
    let id = type_id-local (is_zero n) announced before ids t w u in
    record {
      no-fault =
          ⊳-both _ _ (type-unfaulted (is_zero n) announced before ids (t ++ u) (type-local (is_zero n) announced before ids t w u))
          (rw (bytes, id, drop-append-le (type_bytes t) t u a) ih.no-fault);
      same_bytes = rw (bytes, drop-append-le (type_bytes t) t u a, ih.same_bytes);
      same-ids = rw (bytes, id, drop-append-le (type_bytes t) t u a, ih.same-ids);
    }
