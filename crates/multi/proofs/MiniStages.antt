-- The stages of a mini-chunk, and the answers of the functions that judge it. What the reader answered for a field is
-- handed over as it is (Takes).
--     first-..    "Where the first must stand, fewer than 10 bytes left are 4, other bytes 8."
--     mini-..     a mini-chunk: label, short ID, length and data
--     data-..     its length and data
--     under-..    what it adds to the data under a short ID
-- Assumes nothing.
use Prim.Native.Nat.{ℕ, ◌+◌, ◌-◌, ◌≤◌, ◌<◌}
use mathlib.Core.Bool.{Bool, true, false}
use mathlib.Core.Path.{◌≡◌, sym, ◌∙◌}
use mathlib.Core.List.{List, [], ◌∷◌}
use native.Mathlib.Omega.{arith}
use lib.ListN.{length, take, drop, length-drop}
use lib.Seq.{drop-drop}
use Rattle.metafile.specs.Bytes.{part, ◌⊳◌, require, same, member, starts}
use Rattle.metafile.specs.Fields.{count_value}
use Rattle.metafile.specs.Lines.{free, fixed, value, opened, field_width, field_fault, text_fault, kind_fault, fault, run, table, multi_header_length, short_id}
use Rattle.metafile.specs.Multi.{mini_label, mini_id, mini_data, mini_fault}
use Rattle.table.specs.Codes.{line_no}
use Rattle.laws.proofs.First.{⊳-none, require-met, require-unmet}
use Rattle.laws.proofs.Lists.{same-eq, starts-fits}
use Rattle.laws.proofs.Loops.{fixed-good}
use Rattle.laws.proofs.Table.{field-short, field-long}
use Rattle.laws.proofs.Distances.{lines}
use Rattle.multi.specs.Part.{text_ids, first_mini, mini_rest, data_under}
use Rattle.std.specs.declared.result.Result.TheVariants.{Ok, Err}
use Rattle.metafile.specs.Refusals.{number_of}
use Rattle.lines.specs.declared.reader.Refused.{Refused}
use Rattle.lines.specs.Parts.{field_no, Takes}
use Rattle.lines.proofs.Runs.{refused, run-one, takes-stop, takes-fits, takes-go}
use Rattle.laws.proofs.Stages.{stop, go, unmet, met, part_at}

-- ---- where the first must stand

module _ (at : ℕ) (r : List ℕ) where
  pub first_short : length r - at < 10 → 4 ≡ first_mini (drop at r)
  unfolding first_mini
  first_short k = sym (field-short 10 _ (drop at r) (simp length-drop k))

  module _ (k : 10 ≤ length r - at) {x : Bool} (q : x ≡ starts mini_label (drop at r)) where
    first-is : first_mini (drop at r) ≡ require x 8
    unfolding first_mini starts mini_label
    first-is = field-long 10 _ (drop at r) (simp length-drop k) ∙ rw q

    pub first-here : x ≡ true → 0 ≡ first_mini (drop at r)
    first-here t = sym (first-is ∙ require-met x 8 t)

    pub first-other : x ≡ false → 8 ≡ first_mini (drop at r)
    first-other t = sym (first-is ∙ require-unmet x 8 t)

-- ---- a mini-chunk

label-passes : (m s : List ℕ) → starts m s ≡ true → fault (fixed m) s ≡ 0
unfolding starts
label-passes m s e = sym (fixed-good m s (starts-fits m s e) (same-eq (take (length m) s) m e))

module _ (at : ℕ) (r : List ℕ) (s : starts mini_label (drop at r) ≡ true) where
  mini-stages : (ids : List (List ℕ)) → mini_fault ids (drop at r)
      ≡ run (field_no 15 1 ∷ []) (drop (at + 10) r)
      ⊳ require (member (mini_id (drop at r)) ids) 8
      ⊳ mini_rest (drop (at + 20) r)
  unfolding mini_fault mini_rest mini_data run ◌⊳◌ field_width mini_label field_no opened line_no table short_id
  mini-stages ids = rw (label-passes mini_label (drop at r) s, drop-drop 10 at r, drop-drop 20 at r)

  id-is : run (field_no 15 1 ∷ []) (drop (at + 10) r) ≡ field_fault 10 text_fault (drop (at + 10) r)
  unfolding run fault kind_fault field_no opened line_no table short_id
  id-is = ⊳-none _

  pub mini-short : (ids : List (List ℕ)) → length r - at < 20 → 4 ≡ mini_fault ids (drop at r)
  mini-short ids k =
      let f = field-short 10 text_fault (drop (at + 10) r) (simp length-drop (omega arith)) in
      stop _ _ 4 (sym (id-is ∙ f)) (λ z. omega arith) ∙ sym (mini-stages ids)

  pub mini-stop : (ids : List (List ℕ)) {x : Refused} → Takes (field_no 15 1 ∷ []) (at + 10) r (Err x) → number_of x.refusal ≡ mini_fault ids (drop at r)
  mini-stop ids {x = x} e = stop _ _ _ e.first (refused x.refusal) ∙ sym (mini-stages ids)

  -- x tells whether the short ID is declared
  module _ {x : Bool} (ids : List (List ℕ)) (q : x ≡ member (take (at + 20 - (at + 10)) (drop (at + 10) r)) ids) where
    asked : member (part (at + 10) 10 r) ids ≡ x
    asked = let ten : at + 20 - (at + 10) ≡ 10 = omega arith in rw ten at (sym q)

    declared : member (mini_id (drop at r)) ids ≡ x
    unfolding mini_id
    declared = rw (← drop-drop 10 at r) at asked

    pub mini-declared : (f : ℕ) → text_ids ids → 20 ≤ length r - at → x ≡ true → f ≡ mini_rest (drop (at + 20) r) → f ≡ mini_fault ids (drop at r)
    mini-declared f texts k t p =
        let z = id-is ∙ field-long 10 text_fault (drop (at + 10) r) (simp length-drop (omega arith)) ∙ texts _ (asked ∙ t) in
        go _ _ f z (met _ 8 _ f (declared ∙ t) p) ∙ sym (mini-stages ids)

    pub mini-undeclared : x ≡ false → {p : ℕ} → Takes (field_no 15 1 ∷ []) (at + 10) r (Ok p) → 8 ≡ mini_fault ids (drop at r)
    mini-undeclared t e = go _ _ 8 (sym e.first) (unmet _ 7 _ (declared ∙ t)) ∙ sym (mini-stages ids)

-- ---- its length and data

module _ {at : ℕ} {r : List ℕ} where
  pub data-stop : {x : Refused} → Takes (field_no 12 1 ∷ []) at r (Err x) → number_of x.refusal ≡ mini_rest (drop at r)
  unfolding mini_rest field_no opened line_no table multi_header_length
  data-stop {x = x} e = takes-stop _ (value (free (count_value (part at 12 r))) ∷ []) _ _ x e

  module _ {p : ℕ} (e : Takes (field_no 12 1 ∷ []) at r (Ok p)) where
    pub data-fits : at ≤ length r → (at + 12 ≤ length r) × (p ≤ length r)
    unfolding lines field_no line_no table
    data-fits h = let k = takes-fits _ [] _ _ _ e h in (omega (arith, e.behind), k)

    pub data-last : {n f : ℕ} → n ≡ count_value (part at 12 r) → f ≡ fault (value (free n)) (drop p r) → f ≡ mini_rest (drop at r)
    unfolding mini_rest field_no opened line_no table multi_header_length
    data-last q k = rw q at k ∙ run-one _ _ ∙ takes-go _ (value (free (count_value (part at 12 r))) ∷ []) _ _ _ e

module _ (at : ℕ) (r : List ℕ) where
  pub data_is : {long : ℕ} → long ≡ count_value (part (at + 20) 12 r) → mini_data (drop at r) ≡ long
  unfolding mini_data
  data_is l = rw (l, part_at at 20 12 r)

-- ---- what a mini-chunk adds to the data under a short ID

-- x tells whether it is the mini-chunk's
module _ (id : List ℕ) (at : ℕ) (r : List ℕ) {x : Bool} (e : x ≡ same (take (at + 20 - (at + 10)) (drop (at + 10) r)) id) where
  told : same (mini_id (drop at r)) id ≡ x
  unfolding mini_id
  told =
      let ten : at + 20 - (at + 10) ≡ 10 = omega arith in
      rw (ten, ← drop-drop 10 at r) at (sym e)

  pub under-none : x ≡ false → data_under id (drop at r) ≡ []
  unfolding data_under
  under-none t = rw (told, t)

  pub under-slice : x ≡ true → {m : ℕ} → m ≡ 32 + mini_data (drop at r) → data_under id (drop at r) ≡ take (at + m - (at + 32)) (drop (at + 32) r)
  unfolding data_under
  under-slice t {m = m} q =
      let long : at + m - (at + 32) ≡ mini_data (drop at r) = omega arith in
      rw (told, t, long, drop-drop 32 at r)
