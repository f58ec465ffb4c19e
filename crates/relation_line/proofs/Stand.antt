-- Where the fields of a relation line stand: they have fixed lengths, so a line that has the name is well-formed where it has
-- 604 bytes, four tabs, two serial numbers and two texts in their places.
--     standing    a well-formed line by its places
--     by-places   the test by places is the test of the fields; not-formed: a line of another length
-- Assumes nothing.
use Prim.Native.Nat.{ℕ, suc, ◌+◌, ◌<◌}
use mathlib.Core.Bool.{Bool, true, false, ◌&&◌}
use mathlib.Core.Path.{◌≡◌, refl, sym, ap, ◌∙◌}
use mathlib.Core.List.{List, [], ◌∷◌, ◌++◌}
use native.Mathlib.Omega.{arith}
use native.Mathlib.Nat.{le_of_eq}
use lib.Dec.{eqb}
use lib.ListN.{length, take, drop, get_or, length-append, length-drop}
use lib.Seq.{take_all, take-take, take_at, get_or_at, get_or-drop, drop-drop, drop-append-add, split_at}
use borrow.Author.Tests.{eq-eqb, eqb-true}
use Rattle.metafile.specs.Bytes.{part, all}
use Rattle.metafile.specs.Fields.{is_text, is_serial}
use Rattle.metafile.specs.Lines.{first_of}
use Rattle.metafile.specs.Append.{is_in}
use Rattle.metafile.specs.Relations.{divided, split_on, relation_name, field_no, is_serial_field, is_name_field, well_formed}
use Rattle.laws.proofs.First.{test, and_both}
use Rattle.laws.proofs.Lists.{same-eq, part-long}
use Rattle.laws.proofs.Zero.{serial-text}
use Rattle.laws.proofs.Dates.{serial-asked}
use Rattle.laws.proofs.Split.{none_has, lacks-more, split-divided, divided-split, text-lacks, serial-parts, name-parts}
use Rattle.relation_line.specs.Form.{has_name, Five}
use Rattle.relation_line.proofs.Names.{named-front}

-- ---- a field of n bytes at the place p, and the tab behind it

module _ (p n : ℕ) (s : List ℕ) where
  tab-here : p + n < length s → get_or s (p + n) 0 ≡ 9 → drop p s ≡ part p n s ++ 9 ∷ drop (p + suc n) s
  tab-here l t =
      split_at (drop p s) n 0 (simp length-drop (omega arith)) ∙ rw (get_or-drop p s n 0, t, drop-drop (suc n) p s)

  module _ (v r : List ℕ) (e : drop p s ≡ v ++ 9 ∷ r) (l : length v ≡ n) where
    field_is : part p n s ≡ v
    field_is = ap (take n) e ∙ take_at v (9 ∷ r) n l

    tab-is : get_or s (p + n) 0 ≡ 9
    tab-is = sym (get_or-drop p s n 0) ∙ ap (λ (x : List ℕ). get_or x n 0) e ∙ get_or_at v 9 r 0 n l

    rest-is : drop (p + suc n) s ≡ r
    rest-is =
        let k : suc n ≡ length v + 1 = omega arith in
        sym (drop-drop (suc n) p s) ∙ ap (drop (suc n)) e ∙ ap (λ (m : ℕ). drop m (v ++ 9 ∷ r)) k ∙ drop-append-add v (9 ∷ r) 1

-- ---- five well-formed fields
record Formed (fs : List (List ℕ)) : Type 0 where
  fields : fs ≡ field_no fs 0 ∷ field_no fs 1 ∷ field_no fs 2 ∷ field_no fs 3 ∷ field_no fs 4 ∷ []
  child_serial : (length (field_no fs 1) ≡ 38) × (is_serial (field_no fs 1) ≡ true)
  child_name : (length (field_no fs 2) ≡ 256) × (all is_text (field_no fs 2) ≡ true)
  parent_serial : (length (field_no fs 3) ≡ 38) × (is_serial (field_no fs 3) ≡ true)
  parent_name : (length (field_no fs 4) ≡ 256) × (all is_text (field_no fs 4) ≡ true)

five-fields : (fs : List (List ℕ)) → length fs ≡ 5
    → fs ≡ field_no fs 0 ∷ field_no fs 1 ∷ field_no fs 2 ∷ field_no fs 3 ∷ field_no fs 4 ∷ []
five-fields [] l = absurd (omega arith)
five-fields (a ∷ []) l = absurd (omega arith)
five-fields (a ∷ b ∷ []) l = absurd (omega arith)
five-fields (a ∷ b ∷ c ∷ []) l = absurd (omega arith)
five-fields (a ∷ b ∷ c ∷ d ∷ []) l = absurd (omega arith)
five-fields (a ∷ b ∷ c ∷ d ∷ e ∷ []) l = refl
five-fields (a ∷ b ∷ c ∷ d ∷ e ∷ f ∷ fs) l = absurd (omega arith)

formed : (fs : List (List ℕ)) → well_formed fs ≡ true → Formed fs
unfolding well_formed
formed fs e =
    let count : Bool = eqb (length fs) 5 in
    let serial : Bool = is_serial_field (field_no fs 1) in
    let name : Bool = is_name_field (field_no fs 2) in
    let serial₂ : Bool = is_serial_field (field_no fs 3) in
    let h4 = and_both (count && serial && name && serial₂) (is_name_field (field_no fs 4)) e in
    let h3 = and_both (count && serial && name) serial₂ h4.0 in
    let h2 = and_both (count && serial) name h3.0 in
    let h1 = and_both count serial h2.0 in
    record {
      fields = five-fields fs (eqb-true (length fs) 5 h1.0);
      child_serial = serial-parts (field_no fs 1) h1.1;
      child_name = name-parts (field_no fs 2) h2.1;
      parent_serial = serial-parts (field_no fs 3) h3.1;
      parent_name = name-parts (field_no fs 4) h4.1;
    }

-- ---- by places

unfoldable pub places : List ℕ → Bool
places line =
    eqb (get_or line 12 0) 9
    && eqb (get_or line 51 0) 9
    && eqb (get_or line 308 0) 9
    && eqb (get_or line 347 0) 9
    && is_serial (part 13 38 line)
    && all is_text (part 52 256 line)
    && is_serial (part 309 38 line)
    && all is_text (part 348 256 line)

first-length : (fs : List (List ℕ)) → first_of fs ≡ relation_name → length (field_no fs 0) ≡ 12
unfolding first_of relation_name
first-length [] e = absurd (omega (arith, ap length e))
first-length (v ∷ vs) e = ap length e

module _ (line : List ℕ) (named : has_name line ≡ true) (e : well_formed (split_on 9 line) ≡ true) where
  abbrev fs : List (List ℕ)
  fs = split_on 9 line

  f : Formed fs
  f = formed fs e

  name-long : length (field_no fs 0) ≡ 12
  name-long = first-length fs (same-eq (first_of fs) relation_name named)

  -- what stands behind each tab
  abbrev parents : List ℕ
  parents = field_no fs 3 ++ 9 ∷ field_no fs 4

  abbrev names : List ℕ
  names = field_no fs 2 ++ 9 ∷ parents

  abbrev children : List ℕ
  children = field_no fs 1 ++ 9 ∷ names

  whole : line ≡ field_no fs 0 ++ 9 ∷ children
  unfolding divided
  whole = sym (divided-split 9 line) ∙ ap (divided 9) f.fields

  at-child-serial : drop 13 line ≡ children
  at-child-serial = rest-is 0 12 line (field_no fs 0) children whole name-long

  at-child-name : drop 52 line ≡ names
  at-child-name = rest-is 13 38 line (field_no fs 1) names at-child-serial f.child_serial.0

  at-parent-serial : drop 309 line ≡ parents
  at-parent-serial = rest-is 52 256 line (field_no fs 2) parents at-child-name f.child_name.0

  at-parent-name : drop 348 line ≡ field_no fs 4
  at-parent-name = rest-is 309 38 line (field_no fs 3) (field_no fs 4) at-parent-serial f.parent_serial.0

  pub standing : Five line
  standing =
      record {
        long = omega (arith, simp length-append at (ap length whole), name-long, f);
        child_serial = sym (field_is 13 38 line (field_no fs 1) names at-child-serial f.child_serial.0);
        child_name = sym (field_is 52 256 line (field_no fs 2) parents at-child-name f.child_name.0);
        parent_serial = sym (field_is 309 38 line (field_no fs 3) (field_no fs 4) at-parent-serial f.parent_serial.0);
        parent_name = sym (ap (take 256) at-parent-name ∙ take_all 256 (field_no fs 4) (le_of_eq f.parent_name.0));
      }

  formed-places : places line ≡ true
  unfolding places
  formed-places =
      rw (
        eq-eqb (get_or line 12 0) 9 (tab-is 0 12 line (field_no fs 0) children whole name-long),
        eq-eqb (get_or line 51 0) 9 (tab-is 13 38 line (field_no fs 1) names at-child-serial f.child_serial.0),
        eq-eqb (get_or line 308 0) 9 (tab-is 52 256 line (field_no fs 2) parents at-child-name f.child_name.0),
        eq-eqb (get_or line 347 0) 9 (tab-is 309 38 line (field_no fs 3) (field_no fs 4) at-parent-serial f.parent_serial.0),
        ← standing.child_serial,
        ← standing.child_name,
        ← standing.parent_serial,
        ← standing.parent_name,
        f.child_serial.1,
        f.child_name.1,
        f.parent_serial.1,
        f.parent_name.1,
      )

-- a line of these fields
together : (l a b c d e r s t : List ℕ) → l ≡ a ++ 9 ∷ r → r ≡ b ++ 9 ∷ s → s ≡ c ++ 9 ∷ t → t ≡ d ++ 9 ∷ e
    → l ≡ divided 9 (a ∷ b ∷ c ∷ d ∷ e ∷ [])
unfolding divided
together l a b c d e r s t h₁ h₂ h₃ h₄ = h₁ ∙ rw (h₂, h₃, h₄)

-- as its tests say by places
record InPlace (line : List ℕ) : Type 0 where
  tab₁ : get_or line 12 0 ≡ 9
  tab₂ : get_or line 51 0 ≡ 9
  tab₃ : get_or line 308 0 ≡ 9
  tab₄ : get_or line 347 0 ≡ 9
  child_serial : is_serial (part 13 38 line) ≡ true
  child_name : all is_text (part 52 256 line) ≡ true
  parent_serial : is_serial (part 309 38 line) ≡ true
  parent_name : all is_text (part 348 256 line) ≡ true

in_place : (line : List ℕ) → places line ≡ true → InPlace line
unfolding places
in_place line e =
    let t₁ : Bool = eqb (get_or line 12 0) 9 in
    let t₂ : Bool = eqb (get_or line 51 0) 9 in
    let t₃ : Bool = eqb (get_or line 308 0) 9 in
    let t₄ : Bool = eqb (get_or line 347 0) 9 in
    let s₁ : Bool = is_serial (part 13 38 line) in
    let n₁ : Bool = all is_text (part 52 256 line) in
    let s₂ : Bool = is_serial (part 309 38 line) in
    let h₇ = and_both (t₁ && t₂ && t₃ && t₄ && s₁ && n₁ && s₂) (all is_text (part 348 256 line)) e in
    let h₆ = and_both (t₁ && t₂ && t₃ && t₄ && s₁ && n₁) s₂ h₇.0 in
    let h₅ = and_both (t₁ && t₂ && t₃ && t₄ && s₁) n₁ h₆.0 in
    let h₄ = and_both (t₁ && t₂ && t₃ && t₄) s₁ h₅.0 in
    let h₃ = and_both (t₁ && t₂ && t₃) t₄ h₄.0 in
    let h₂ = and_both (t₁ && t₂) t₃ h₃.0 in
    let h₁ = and_both t₁ t₂ h₂.0 in
    record {
      tab₁ = eqb-true (get_or line 12 0) 9 h₁.0;
      tab₂ = eqb-true (get_or line 51 0) 9 h₁.1;
      tab₃ = eqb-true (get_or line 308 0) 9 h₂.1;
      tab₄ = eqb-true (get_or line 347 0) 9 h₃.1;
      child_serial = h₄.1;
      child_name = h₅.1;
      parent_serial = h₆.1;
      parent_name = h₇.1;
    }

serial-lacks : (p : ℕ) (line : List ℕ) → is_serial (part p 38 line) ≡ true → is_in 9 (part p 38 line) ≡ false
serial-lacks p line e =
    text-lacks 9 (part p 38 line) (omega arith)
    (rw (take-take 38 38 (drop p line) (omega arith)) at (serial-text (part p 38 line) e))

module _ (line : List ℕ) (long : length line ≡ 604) (named : has_name line ≡ true) (g : InPlace line) where
  fields-are : split_on 9 line ≡ relation_name ∷ part 13 38 line ∷ part 52 256 line ∷ part 309 38 line ∷ part 348 256 line ∷ []
  fields-are =
      let name : line ≡ relation_name ++ 9 ∷ drop 13 line =
      tab-here 0 12 line (omega arith) g.tab₁ ∙ ap (λ (x : List ℕ). x ++ 9 ∷ drop 13 line) (named-front line named) in
      let last : drop 348 line ≡ part 348 256 line = sym (take_all 256 (drop 348 line) (simp length-drop (omega arith))) in
      let parent : drop 309 line ≡ part 309 38 line ++ 9 ∷ part 348 256 line =
      tab-here 309 38 line (omega arith) g.tab₄ ∙ ap (λ (x : List ℕ). part 309 38 line ++ 9 ∷ x) last in
      let whole_is : line ≡ divided 9 (relation_name ∷ part 13 38 line ∷ part 52 256 line ∷ part 309 38 line ∷ part 348 256 line ∷ []) =
      together line relation_name (part 13 38 line) (part 52 256 line) (part 309 38 line) (part 348 256 line)
      (drop 13 line) (drop 52 line) (drop 309 line)
      name (tab-here 13 38 line (omega arith) g.tab₂) (tab-here 52 256 line (omega arith) g.tab₃) parent in
      ap (split_on 9) whole_is
      ∙ split-divided 9 relation_name _
      (lacks-more 9 relation_name _ (unfold relation_name is_in in refl)
      (lacks-more 9 (part 13 38 line) _ (serial-lacks 13 line g.child_serial)
      (lacks-more 9 (part 52 256 line) _ (text-lacks 9 (part 52 256 line) (omega arith) g.child_name)
      (lacks-more 9 (part 309 38 line) _ (serial-lacks 309 line g.parent_serial)
      (lacks-more 9 (part 348 256 line) [] (text-lacks 9 (part 348 256 line) (omega arith) g.parent_name)
      (unfold none_has in refl))))))

  places-formed : well_formed (split_on 9 line) ≡ true
  unfolding well_formed is_serial_field is_name_field
  places-formed =
      rw (
        fields-are,
        eq-eqb (length (part 13 38 line)) 38 (part-long line 13 38 (omega arith)),
        eq-eqb (length (part 52 256 line)) 256 (part-long line 52 256 (omega arith)),
        eq-eqb (length (part 309 38 line)) 38 (part-long line 309 38 (omega arith)),
        eq-eqb (length (part 348 256 line)) 256 (part-long line 348 256 (omega arith)),
        serial-asked (part 13 38 line),
        serial-asked (part 309 38 line),
        g.child_serial,
        g.child_name,
        g.parent_serial,
        g.parent_name,
      )

-- ---- the two tests

module _ (line : List ℕ) (named : has_name line ≡ true) where
  pub not-formed : (length line ≡ 604 → ⊥) → false ≡ well_formed (split_on 9 line)
  not-formed n =
      test (well_formed (split_on 9 line)) (λ e. absurd (n (standing line named e).long)) (λ e. sym e)

  pub by-places : length line ≡ 604 → places line ≡ well_formed (split_on 9 line)
  by-places long =
      test (places line)
      (λ e. e ∙ sym (places-formed line long named (in_place line e)))
      (λ e. test (well_formed (split_on 9 line)) (λ w. formed-places line named w ∙ sym w) (λ w. e ∙ sym w))
