-- Bytes divided at a byte (split_on), fields with that byte between them (divided), and lines each with its LF (lined).
--     none_has           no field has the byte
--     split-none split-first   without the byte, and up to its first
--     split-divided     fields that don't have the byte are found again
--     divided-split     divided bytes, put together again, are the bytes; split-lacks: no part has the byte
--     split-lined       lines are found again, and an empty one behind the last
--     split_at split-end       by the first place of the byte
--     append-lacks divided-lacks   two parts without the byte, and fields with another between them
--     text-lacks        a text has no byte below 32
--     serial-field-is serial-parts name-parts   the fields of a relation line
-- Assumes nothing.
use Prim.Native.Nat.{ℕ, suc, ◌≤◌, ◌<◌}
use mathlib.Core.Bool.{Bool, true, false, not, ◌&&◌}
use mathlib.Core.Path.{◌≡◌, refl, sym, ap, ◌∙◌}
use mathlib.Core.List.{List, [], ◌∷◌, ◌++◌}
use native.Mathlib.Omega.{arith}
use lib.Dec.{leb, eqb}
use lib.ListN.{length, take, drop}
use borrow.Author.Tests.{eqb-true, eq-eqb, leb-true}
use Rattle.metafile.specs.Bytes.{all, same, starts, find}
use Rattle.metafile.specs.Fields.{is_text, is_serial}
use Rattle.metafile.specs.Append.{is_in}
use Rattle.metafile.specs.Relations.{divided, onto_first, split_on, lined, is_serial_field, is_name_field}
use Rattle.laws.proofs.First.{test, untrue, and_both, or-false}
use Rattle.laws.proofs.Dates.{serial-asked}

unfoldable pub none_has : ℕ → List (List ℕ) → Bool
none_has d [] = true
none_has d (v ∷ vs) = not (is_in d v) && none_has d vs

not-true : (b : Bool) → not b ≡ true → b ≡ false
not-true true e = sym e
not-true false e = refl

pub lacks-first : (d : ℕ) (v : List ℕ) (vs : List (List ℕ)) → none_has d (v ∷ vs) ≡ true → (is_in d v ≡ false) × (none_has d vs ≡ true)
unfolding none_has
lacks-first d v vs e = let h = and_both (not (is_in d v)) (none_has d vs) e in (not-true (is_in d v) h.0, h.1)

pub lacks-more : (d : ℕ) (v : List ℕ) (vs : List (List ℕ)) → is_in d v ≡ false → none_has d vs ≡ true → none_has d (v ∷ vs) ≡ true
unfolding none_has
lacks-more d v vs e h = rw e h

pub append-lacks : (d : ℕ) (v w : List ℕ) → is_in d v ≡ false → is_in d w ≡ false → is_in d (v ++ w) ≡ false
unfolding is_in
append-lacks d [] w e f = f
append-lacks d (x ∷ v) w e f = let h = or-false (eqb d x) (is_in d v) e in rw h.0 (append-lacks d v w h.1 f)

pub divided-lacks : (d b : ℕ) (vs : List (List ℕ)) → eqb d b ≡ false → none_has d vs ≡ true → is_in d (divided b vs) ≡ false
unfolding divided is_in
divided-lacks d b [] o e = refl
divided-lacks d b (v ∷ []) o e = (lacks-first d v [] e).0
divided-lacks d b (v ∷ w ∷ ws) o e =
    let h = lacks-first d v (w ∷ ws) e in
    append-lacks d v _ h.0 (rw o (divided-lacks d b (w ∷ ws) o h.1))

-- a byte that isn't d, in either order
other : (d x : ℕ) → eqb d x ≡ false → eqb x d ≡ false
other d x e = test (eqb x d) (λ q. untrue (sym e ∙ eq-eqb d x (sym (eqb-true x d q)))) (λ q. q)

module _ (d : ℕ) where
  -- ---- divided at d

  pub split-none : (v : List ℕ) → is_in d v ≡ false → split_on d v ≡ v ∷ []
  unfolding split_on is_in onto_first
  split-none [] e = refl
  split-none (x ∷ v) e =
      let h = or-false (eqb d x) (is_in d v) e in
      rw (other d x h.0, split-none v h.1)

  pub split-first : (v s : List ℕ) → is_in d v ≡ false → split_on d (v ++ d ∷ s) ≡ v ∷ split_on d s
  unfolding split_on is_in onto_first
  split-first [] s e = rw (eq-eqb d d refl)
  split-first (x ∷ v) s e =
      let h = or-false (eqb d x) (is_in d v) e in
      rw (other d x h.0, split-first v s h.1)

  pub split-divided : (v : List ℕ) (vs : List (List ℕ)) → none_has d (v ∷ vs) ≡ true → split_on d (divided d (v ∷ vs)) ≡ v ∷ vs
  unfolding divided
  split-divided v [] e = split-none v (lacks-first d v [] e).0
  split-divided v (w ∷ ws) e =
      let h = lacks-first d v (w ∷ ws) e in
      split-first v (divided d (w ∷ ws)) h.0 ∙ ap (λ (x : List (List ℕ)). v ∷ x) (split-divided w ws h.1)

  divided-onto : (x : ℕ) (v : List ℕ) (vs : List (List ℕ)) → divided d ((x ∷ v) ∷ vs) ≡ x ∷ divided d (v ∷ vs)
  unfolding divided
  divided-onto x v [] = refl
  divided-onto x v (w ∷ ws) = refl

  -- there is a first part
  split-some : {A : Type 0} (s : List ℕ) → ((v : List ℕ) (vs : List (List ℕ)) → split_on d s ≡ v ∷ vs → A) → A
  unfolding split_on onto_first
  split-some [] f = f [] [] refl
  split-some (x ∷ s) f =
      test (eqb x d)
      (λ q. f [] (split_on d s) (rw q))
      (λ q. split-some s (λ v vs e. f (x ∷ v) vs (rw (q, e))))

  pub divided-split : (s : List ℕ) → divided d (split_on d s) ≡ s
  unfolding split_on divided onto_first
  divided-split [] = refl
  divided-split (x ∷ s) =
      split-some s
      (λ v vs e.
      let h : divided d (v ∷ vs) ≡ s = sym (ap (divided d) e) ∙ divided-split s in
      test (eqb x d)
      (λ q. rw (q, e, h, eqb-true x d q))
      (λ q. rw (q, e, divided-onto x v vs, h)))

  pub split-lacks : (s : List ℕ) → none_has d (split_on d s) ≡ true
  unfolding split_on none_has is_in onto_first
  split-lacks [] = refl
  split-lacks (x ∷ s) =
      test (eqb x d)
      (λ q. rw q (split-lacks s))
      (λ q.
      split-some s
      (λ v vs e.
      let h = lacks-first d v vs (sym (ap (none_has d) e) ∙ split-lacks s) in
      rw (q, e, other x d q, h.0) h.1))

  -- ---- by the first place of d

  starts-here : (x : ℕ) (s : List ℕ) → starts (d ∷ []) (x ∷ s) ≡ eqb x d
  unfolding starts same
  starts-here x s = test (eqb x d) (λ q. rw q) (λ q. rw q)

  pub split_at : (s : List ℕ) → find (d ∷ []) s < length s → split_on d s ≡ take (find (d ∷ []) s) s ∷ split_on d (drop (suc (find (d ∷ []) s)) s)
  unfolding find split_on onto_first
  split_at [] h = absurd (omega arith)
  split_at (x ∷ s) h =
      test (eqb x d)
      (λ q. rw (starts-here x s, q))
      (λ q.
      let near : find (d ∷ []) s < length s = omega (arith, rw (starts-here x s, q) at h) in
      rw (starts-here x s, q, split_at s near))

  pub split-end : (s : List ℕ) → length s ≤ find (d ∷ []) s → split_on d s ≡ s ∷ []
  unfolding find split_on onto_first
  split-end [] h = refl
  split-end (x ∷ s) h =
      test (eqb x d)
      (λ q. absurd (omega (arith, rw (starts-here x s, q) at h)))
      (λ q.
      let near : length s ≤ find (d ∷ []) s = omega (arith, rw (starts-here x s, q) at h) in
      rw (q, split-end s near))

-- ---- lines

pub split-lined : (ls : List (List ℕ)) → none_has 10 ls ≡ true → split_on 10 (lined ls) ≡ ls ++ [] ∷ []
unfolding lined split_on
split-lined [] e = refl
split-lined (v ∷ vs) e =
    let h = lacks-first 10 v vs e in
    split-first 10 v (lined vs) h.0 ∙ ap (λ (x : List (List ℕ)). v ∷ x) (split-lined vs h.1)

-- ---- text

pub text-lacks : (d : ℕ) (v : List ℕ) → d < 32 → all is_text v ≡ true → is_in d v ≡ false
unfolding all is_in is_text
text-lacks d [] h e = refl
text-lacks d (x ∷ v) h e =
    let k = and_both (leb 32 x && leb x 126) (all is_text v) e in
    let low = leb-true 32 x (and_both (leb 32 x) (leb x 126) k.0).0 in
    test (eqb d x) (λ q. absurd (omega (arith, eqb-true d x q))) (λ q. rw q (text-lacks d v h k.1))

-- ---- the fields of a relation line

pub serial-field-is : (v : List ℕ) → is_serial_field v ≡ (eqb (length v) 38 && is_serial v)
unfolding is_serial_field
serial-field-is v = rw (serial-asked v)

pub serial-parts : (v : List ℕ) → is_serial_field v ≡ true → (length v ≡ 38) × (is_serial v ≡ true)
serial-parts v f =
    let e = sym (serial-field-is v) ∙ f in
    let h = and_both (eqb (length v) 38) (is_serial v) e in
    (eqb-true (length v) 38 h.0, h.1)

pub name-parts : (v : List ℕ) → is_name_field v ≡ true → (length v ≡ 256) × (all is_text v ≡ true)
unfolding is_name_field
name-parts v e = let h = and_both (eqb (length v) 256) (all is_text v) e in (eqb-true (length v) 256 h.0, h.1)
