-- The stages of the head and of a type, and the answers of the functions that judge them. What the reader answered for a
-- stretch is handed over as it is (Takes); lines go by their numbers in the table.
--     head-..     up to the LF after the type count
--     length-..   a type's length and the tests on lengths ("Multi_Chunk_Header_Length at the last
--                 SubType_Header_Length, after that one's own test")
--     names-.. rest-..   from there to the short ID; from there to the end
--     type-..     the type
-- Assumes nothing.
use Prim.Native.Nat.{ℕ, ◌+◌, ◌-◌, ◌≤◌, ◌<◌}
use mathlib.Core.Bool.{Bool, true, false, not, ◌&&◌, ◌||◌}
use mathlib.Core.Path.{◌≡◌, refl, sym, ap, ◌∙◌}
use mathlib.Core.List.{List, [], ◌∷◌, ◌++◌}
use native.Mathlib.Omega.{arith}
use lib.Dec.{leb, eqb}
use lib.ListN.{length, take, drop}
use lib.Seq.{drop-drop}
use borrow.Author.Tests.{le-leb, lt-leb, leb-true, eq-eqb, ne_eqb}
use Rattle.metafile.specs.Bytes.{part, ◌⊳◌, require, member}
use Rattle.metafile.specs.Fields.{is_count, count_value}
use Rattle.metafile.specs.Lines.{free, i12, fixed, value, lf, opened, lines_of, size, field_fault, count_fault, kind_fault, fault, run, table, time_and_event, sub_type_length}
use Rattle.metafile.specs.Multi.{multi_head, types_of, type_length, type_specific, type_bytes, type_id, multi_length_for, type_fault}
use Rattle.table.specs.Codes.{line_no, lines_from}
use Rattle.laws.proofs.First.{and_both, ⊳-left, ⊳-right, ⊳-assoc, require-true, require-met, require-unmet}
use Rattle.laws.proofs.Table.{field-own, run_at}
use Rattle.laws.proofs.Distances.{lines}
use Rattle.multi.specs.Part.{head_fault, type_length_fault, type_names, type_rest}
use Rattle.std.specs.declared.result.Result.{Result}
use Rattle.std.specs.declared.result.Result.TheVariants.{Ok, Err}
use Rattle.metafile.specs.declared.refusal.Refusal.{Refusal}
use Rattle.metafile.specs.Refusals.{number_of}
use Rattle.lines.specs.declared.reader.Refused.{Refused}
use Rattle.lines.specs.Parts.{field_no, fault_taken, Takes}
use Rattle.lines.proofs.Runs.{refused, run-one, field_end, takes-stop, takes-fits, takes-go, takes-both}
use Rattle.laws.proofs.Stages.{stop, go, unmet, met, part_at, fits}

-- ---- the head

size-head : size multi_head ≡ 64
unfolding lines multi_head
size-head = refl

pub head-fits : (r : List ℕ) → head_fault r ≡ 0 → 65 ≤ length r
unfolding head_fault lines
head-fits r e =
    fits (lf ∷ []) 1 64 r refl (fits multi_head 64 0 r size-head (omega arith) (⊳-left _ _ e)) (⊳-right _ _ (⊳-right _ _ e))

module _ {r : List ℕ} where
  pub head_first : {x : Refused} → Takes (lines_of (line_no 12 ∷ [])) 0 r (Err x) → number_of x.refusal ≡ head_fault r
  unfolding head_fault multi_head line_no table
  head_first {x = x} a = stop _ _ _ (takes-stop _ (opened (line_no 13)) _ _ x a) (refused x.refusal)

  module _ {p : ℕ} (a : Takes (lines_of (line_no 12 ∷ [])) 0 r (Ok p)) where
    head-both : {q : Result ℕ Refused} → Takes (opened (line_no 13)) p r q → Takes multi_head 0 r q
    unfolding multi_head line_no table
    head-both {q = q} b = takes-both _ _ _ _ p a q b

    pub head-second : {x : Refused} → Takes (opened (line_no 13)) p r (Err x) → number_of x.refusal ≡ head_fault r
    unfolding head_fault
    head-second {x = x} b = stop _ _ _ (head-both b).first (refused x.refusal)

    module _ {q : ℕ} (b : Takes (opened (line_no 13)) p r (Ok q)) where
      head-place : q ≡ 64
      head-place = omega (arith, (head-both b).behind, size-head)

      pub head-inside : (64 ≤ length r) × (q ≤ length r)
      head-inside =
          let h = takes-fits _ [] _ _ _ (head-both b) (omega arith) in
          (omega (arith, head-place), h)

      passed : (x : ℕ) → x ≡ require (leb 1 (types_of r) && leb (types_of r) 64) 7 ⊳ run (lf ∷ []) (drop 64 r) → x ≡ head_fault r
      unfolding head_fault
      passed x k = go _ _ x (sym (head-both b).first) k

      module _ {n : ℕ} (m : n ≡ types_of r) where
        pub head_few : n < 1 → 7 ≡ head_fault r
        head_few h = passed 7 (unmet _ 6 _ (rw (← m, lt-leb 1 n h)))

        pub head-many : 1 ≤ n → 64 < n → 7 ≡ head_fault r
        head-many h k = passed 7 (unmet _ 6 _ (rw (← m, le-leb 1 n h, lt-leb n 64 k)))

        pub head-last : 1 ≤ n → n ≤ 64 → {end : Result ℕ Refused} → Takes (field_no 13 2 ∷ []) q r end → fault_taken end ≡ head_fault r
        head-last h k e =
            passed _ (met _ 7 _ _ (rw (← m, le-leb 1 n h, le-leb n 64 k)) (rw (field_end 13, head-place) at e.first))

-- ---- a type: its length

size-14 : size (opened (line_no 14)) ≡ 34
unfolding lines line_no table
size-14 = refl

length-small : (t : List ℕ) → run (opened (line_no 14)) t ≡ 0 → type_length t ≤ 999999999999
unfolding lines line_no table fault kind_fault count_fault type_length
length-small t e =
    let f : field_fault 12 (count_fault 999999999999) (drop 22 t) ≡ 0 = run_at (fixed sub_type_length.label ∷ []) (value i12) [] t e in
    let h = require-true _ 5 (field-own 12 (count_fault 999999999999) (drop 22 t) f) in
    leb-true _ _ (and_both (is_count (part 22 12 t)) (leb (count_value (part 22 12 t)) 999999999999) h).1

-- the length that is read at a type's place
long-is : (at long : ℕ) (r : List ℕ) → long ≡ count_value (part (at + 22) 12 r) → long ≡ type_length (drop at r)
unfolding type_length
long-is at long r l = l ∙ ap count_value (part_at at 22 12 r)

pub bytes-are : (at long : ℕ) (r : List ℕ) → long ≡ count_value (part (at + 22) 12 r) → type_bytes (drop at r) ≡ 518 + (long - 484)
unfolding type_bytes type_specific
bytes-are at long r l = rw (long-is at long r l)

module _ {at : ℕ} {r : List ℕ} where
  pub length-stop : {x : Refused} → Takes (opened (line_no 14)) at r (Err x) → (last : Bool) (announced : ℕ)
      → number_of x.refusal ≡ type_length_fault last announced (at - 65) (drop at r)
  unfolding type_length_fault line_no table
  length-stop {x = x} e last announced = stop _ _ _ e.first (refused x.refusal)

  module _ {p : ℕ} (e : Takes (opened (line_no 14)) at r (Ok p)) where
    pub length-fits : at ≤ length r → at + 34 ≤ length r
    length-fits h = omega (arith, takes-fits _ [] _ _ _ e h, e.behind, size-14)

    pub length-bound : {long : ℕ} → long ≡ count_value (part (at + 22) 12 r) → long ≤ 999999999999
    length-bound l = rw (long-is at _ r l) (length-small (drop at r) (sym e.first))

    module _ (last : Bool) (announced : ℕ) {long : ℕ} (l : long ≡ count_value (part (at + 22) 12 r)) where
      passes : (x : ℕ) → x ≡ require (leb 484 long) 7 ⊳ require (not last || eqb announced (multi_length_for (at - 65 + type_bytes (drop at r)))) 7
          → x ≡ type_length_fault last announced (at - 65) (drop at r)
      unfolding type_length_fault line_no table
      passes x k = go _ _ x (sym e.first) (rw (long-is at long r l) at k)

      pub length-short : long < 484 → 7 ≡ type_length_fault last announced (at - 65) (drop at r)
      length-short h = passes 7 (unmet _ 6 _ (lt-leb 484 long h))

      module _ (h : 484 ≤ long) where
        enough : (x : ℕ) → x ≡ require (not last || eqb announced (multi_length_for (at - 65 + type_bytes (drop at r)))) 7
            → x ≡ type_length_fault last announced (at - 65) (drop at r)
        enough x q = passes x (met _ 7 _ x (le-leb 484 long h) q)

        measured : 27 + (at - 65) + 34 + long ≡ multi_length_for (at - 65 + type_bytes (drop at r))
        unfolding multi_length_for
        measured = omega (arith, bytes-are at long r l)

        pub length-differs : last ≡ true → (announced ≡ 27 + (at - 65) + 34 + long → ⊥) → 7 ≡ type_length_fault last announced (at - 65) (drop at r)
        length-differs y n =
            enough 7 (sym (require-unmet _ 7 (rw y (ne_eqb announced _ (λ q. n (q ∙ sym measured))))))

        pub length-agrees : last ≡ true → announced ≡ 27 + (at - 65) + 34 + long → 0 ≡ type_length_fault last announced (at - 65) (drop at r)
        length-agrees y q = enough 0 (sym (require-met _ 7 (rw y (eq-eqb announced _ (q ∙ measured)))))

        pub length-passed : last ≡ false → 0 ≡ type_length_fault last announced (at - 65) (drop at r)
        length-passed y = enough 0 (sym (require-met _ 7 (rw y)))

-- ---- a type: names

module _ {at : ℕ} {s : List ℕ} where
  pub names-end : {x : Refused} → Takes (field_no 14 2 ∷ []) at s (Err x) → number_of x.refusal ≡ run type_names (drop at s)
  unfolding type_names field_no opened line_no table
  names-end {x = x} e = takes-stop _ (lines_of (line_no 1 ∷ []) ++ opened (line_no 15)) _ _ x e

  module _ {p : ℕ} (e : Takes (field_no 14 2 ∷ []) at s (Ok p)) where
    names-both : {q : Result ℕ Refused} → Takes (lines_of (line_no 1 ∷ [])) p s q → Takes ((field_no 14 2 ∷ []) ++ lines_of (line_no 1 ∷ [])) at s q
    names-both {q = q} a = takes-both _ _ _ _ p e q a

    pub names-first : {x : Refused} → Takes (lines_of (line_no 1 ∷ [])) p s (Err x) → number_of x.refusal ≡ run type_names (drop at s)
    unfolding type_names field_no opened line_no table
    names-first {x = x} a = takes-stop _ (opened (line_no 15)) _ _ x (names-both a)

    module _ {q : ℕ} (a : Takes (lines_of (line_no 1 ∷ [])) p s (Ok q)) where
      pub names-fit : at ≤ length s → q ≤ length s
      names-fit h = takes-fits _ [] _ _ _ (names-both a) h

      pub names-last : {id : Result ℕ Refused} → Takes (opened (line_no 15)) q s id → fault_taken id ≡ run type_names (drop at s)
      unfolding type_names field_no opened line_no table
      names-last f = f.first ∙ takes-go _ (opened (line_no 15)) _ _ _ (names-both a)

-- ---- a type: time, events and specific data

size-events : size (lines_of (lines_from 3 4)) ≡ 183
unfolding lines lines_from table
size-events = refl

module _ {at : ℕ} {s : List ℕ} (n : ℕ) where
  pub rest_end : {x : Refused} → Takes (field_no 15 2 ∷ []) at s (Err x) → number_of x.refusal ≡ run (type_rest n) (drop at s)
  unfolding type_rest field_no opened
  rest_end {x = x} e = takes-stop _ (lines_of time_and_event ++ value (free n) ∷ []) _ _ x e

  module _ {p : ℕ} (e : Takes (field_no 15 2 ∷ []) at s (Ok p)) where
    rest_both : {q : Result ℕ Refused} → Takes (lines_of (lines_from 3 4)) p s q → Takes ((field_no 15 2 ∷ []) ++ lines_of (lines_from 3 4)) at s q
    rest_both {q = q} a = takes-both _ _ _ _ p e q a

    pub rest-events : (x : Refusal) → number_of x ≡ run (lines_of (lines_from 3 4)) (drop p s) → number_of x ≡ run (type_rest n) (drop at s)
    unfolding type_rest field_no opened lines_from table time_and_event
    rest-events x a = takes-stop _ (value (free n) ∷ []) _ _ (record { refusal = x; behind = p + 183 }) (rest_both (record { first = a; behind = rw size-events }))

    module _ (a : 0 ≡ run (lines_of (lines_from 3 4)) (drop p s)) where
      rest-passed : Takes ((field_no 15 2 ∷ []) ++ lines_of (lines_from 3 4)) at s (Ok (p + 183))
      rest-passed = rest_both (record { first = a; behind = rw size-events })

      pub rest-fits : at ≤ length s → p + 183 ≤ length s
      rest-fits h = takes-fits _ [] _ _ _ rest-passed h

      pub rest-last : {g : ℕ} → g ≡ fault (value (free n)) (drop (p + 183) s) → g ≡ run (type_rest n) (drop at s)
      unfolding type_rest field_no opened lines_from table time_and_event
      rest-last q = q ∙ run-one _ _ ∙ takes-go _ (value (free n) ∷ []) _ _ _ rest-passed

-- ---- a type

size-rest : (n : ℕ) → size (type_rest n) ≡ 184 + n
unfolding lines type_rest
size-rest n = omega arith

pub type-stages : (last : Bool) (announced before : ℕ) (ids : List (List ℕ)) (at : ℕ) (r : List ℕ)
    → type_fault last announced before ids (drop at r)
    ≡ type_length_fault last announced before (drop at r)
    ⊳ run type_names (drop (at + 34) r)
    ⊳ require (not (member (type_id (drop at r)) ids)) 8
    ⊳ run (type_rest (type_specific (drop at r))) (drop (at + 334) r)
unfolding type_fault type_length_fault type_names type_rest
type-stages last announced before ids at r = rw (⊳-assoc, ⊳-assoc, drop-drop 34 at r, drop-drop 334 at r)

-- the length passed
module _ (at : ℕ) (r : List ℕ) (last : Bool) (announced before : ℕ) (z : type_length_fault last announced before (drop at r) ≡ 0) where
  length_taken : (run (opened (line_no 14)) (drop at r) ≡ 0) × (484 ≤ type_length (drop at r))
  unfolding type_length_fault line_no table
  length_taken = (⊳-left _ _ z, leb-true _ _ (require-true _ 6 (⊳-left _ _ (⊳-right _ _ z))))

  pub names-place : at ≤ length r → at + 34 ≤ length r
  names-place h = fits (opened (line_no 14)) 34 at r size-14 h length_taken.0

  pub long-enough : (long : ℕ) → long ≡ count_value (part (at + 22) 12 r) → 484 ≤ long
  long-enough long l = rw (long-is at long r l) length_taken.1

  -- and the names; x tells whether the short ID is among those before
  module _ (y : run type_names (drop (at + 34) r) ≡ 0) where
    pub rest-place : at ≤ length r → at + 334 ≤ length r
    unfolding lines type_names
    rest-place h = omega (arith, fits type_names 300 (at + 34) r refl (names-place h) y)

    module _ {x : Bool} (ids : List (List ℕ)) (q : x ≡ member (take (at + 334 - (at + 324)) (drop (at + 324) r)) ids) where
      known : member (type_id (drop at r)) ids ≡ x
      unfolding type_id
      known =
          let ten : at + 334 - (at + 324) ≡ 10 = omega arith in
          rw (ten, ← drop-drop 324 at r) at (sym q)

      pub type-repeated : x ≡ true → 8 ≡ type_fault last announced before ids (drop at r)
      type-repeated t =
          go _ _ 8 z (go _ _ 8 y (unmet _ 7 _ (rw (known, t)))) ∙ sym (type-stages last announced before ids at r)

      pub type-passed : (long f : ℕ) → x ≡ false → long ≡ count_value (part (at + 22) 12 r) → f ≡ run (type_rest (long - 484)) (drop (at + 334) r)
          → f ≡ type_fault last announced before ids (drop at r)
      unfolding type_specific
      type-passed long f t l p =
          go _ _ f z (go _ _ f y (met _ 8 _ f (rw (known, t)) (rw (long-is at long r l) at p)))
          ∙ sym (type-stages last announced before ids at r)

pub type-fits : (last : Bool) (announced before : ℕ) (ids : List (List ℕ)) (at : ℕ) (r : List ℕ)
    → at ≤ length r → type_fault last announced before ids (drop at r) ≡ 0 → at + type_bytes (drop at r) ≤ length r
unfolding type_bytes
type-fits last announced before ids at r h e =
    let e1 = sym (type-stages last announced before ids at r) ∙ e in
    let e2 = ⊳-right _ _ e1 in
    let n : ℕ = type_specific (drop at r) in
    let a = rest-place at r _ _ _ (⊳-left _ _ e1) (⊳-left _ _ e2) h in
    let b = fits (type_rest n) (184 + n) (at + 334) r (size-rest n) a (⊳-right _ _ (⊳-right _ _ e2)) in
    omega arith
