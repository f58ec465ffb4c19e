-- The contents as a whole: the stages of multi_part.
--     part-..    what a part hands back
--     multi-..   the contents' stages; each of multi_part's answers
-- Assumes nothing.
use Prim.Native.Nat.{ℕ, ◌+◌, ◌≤◌}
use mathlib.Core.Path.{◌≡◌, sym, ap, ◌∙◌}
use mathlib.Core.List.{List, []}
use native.Mathlib.Omega.{arith}
use lib.Dec.{leb}
use lib.ListN.{length, drop, length-drop}
use borrow.Author.Tests.{leb-true}
use Rattle.metafile.specs.Bytes.{◌⊳◌, choose}
use Rattle.metafile.specs.Multi.{types_of, multi_length, types_fault, types_bytes, type_ids, minis_fault, minis_end, minis_place, declared_ids, multi_fault, multi_bytes}
use Rattle.laws.proofs.First.{cases, and_both, ⊳-left, ⊳-right, ⊳-go, ⊳-assoc, require-true, choose-go, choose-stop}
use Rattle.chunk_laws.proofs.Types.{types-enough}
use Rattle.std.specs.declared.result.Result.TheVariants.{Ok, Err}
use Rattle.metafile.specs.declared.refusal.Refusal.{Refusal}
use Rattle.metafile.specs.Refusals.{number_of}
use Rattle.multi.specs.Part.{Part, part_in, part_of, multi_part, text_ids, head_fault, first_mini}
use Rattle.lines.proofs.Runs.{refused}
use Rattle.laws.proofs.Stages.{stop}
use Rattle.multi.proofs.TypeStages.{head-fits}
use Rattle.multi.proofs.TypeWalk.{types-texts}

-- ---- the contents

-- what the types hand back
abbrev pub types_part : List ℕ → Part
types_part r = part_of (types_fault (types_of r) (multi_length r) 0 [] (drop 65 r)) (65 + types_bytes (types_of r) (drop 65 r))

pub part-stopped : (e : Refusal) (f b : ℕ) → f ≡ number_of e → part_in (Err e) ≡ part_of f b
part-stopped e f b q = sym (rw q (choose-stop (number_of e) _ _ (refused e)))

pub part-taken : (f b n : ℕ) → f ≡ 0 → b ≡ n → part_in (Ok n) ≡ part_of f b
part-taken f b n e q = sym (choose-go f _ _ e ∙ rw q)

part-number : (f b : ℕ) (p : Part) → p ≡ part_of f b → p.number ≡ f
unfolding choose
part-number f b p e = ap (λ q. q.number) e ∙ cases f (λ z. rw z) (λ k z. rw z)

part-bytes : (f b : ℕ) (p : Part) → p ≡ part_of f b → f ≡ 0 → p.bytes ≡ b
part-bytes f b p e z = ap (λ q. q.bytes) (e ∙ choose-go f _ _ z)

module _ (r : List ℕ) where
  multi-stages : multi_fault r
      ≡ head_fault r
      ⊳ types_fault (types_of r) (multi_length r) 0 [] (drop 65 r)
      ⊳ first_mini (drop (minis_place r) r)
      ⊳ minis_fault (declared_ids r) 0 (drop (minis_place r) r)
  unfolding multi_fault head_fault first_mini
  multi-stages = rw (⊳-assoc, ⊳-assoc)

  pub head-most : head_fault r ≡ 0 → types_of r ≤ 64
  unfolding head_fault
  head-most e =
      leb-true _ _ (and_both (leb 1 (types_of r)) (leb (types_of r) 64) (require-true _ 6 (⊳-left _ _ (⊳-right _ _ e)))).1

  -- the short IDs of all the types are those declared
  pub kept-declared : {n : ℕ} {ids : List (List ℕ)} → n ≡ types_of r → ids ≡ type_ids n (drop 65 r) → ids ≡ declared_ids r
  unfolding declared_ids
  kept-declared c e = rw c at e

  pub multi-head : (e : Refusal) → number_of e ≡ head_fault r → part_in (Err e) ≡ multi_part r
  unfolding multi_part
  multi-head e q = part-stopped e (multi_fault r) (multi_bytes r) (multi-stages ∙ sym (stop _ _ (number_of e) q (refused e)))

  module _ (h : head_fault r ≡ 0) where
    rest-is : multi_fault r ≡ types_fault (types_of r) (multi_length r) 0 [] (drop 65 r) ⊳ first_mini (drop (minis_place r) r) ⊳ minis_fault (declared_ids r) 0 (drop (minis_place r) r)
    rest-is = multi-stages ∙ ⊳-go (head_fault r) _ h

    pub multi-types : (e : Refusal) → part_in (Err e) ≡ types_part r → part_in (Err e) ≡ multi_part r
    unfolding multi_part
    multi-types e q =
        part-stopped e (multi_fault r) (multi_bytes r)
        (rest-is ∙ sym (stop _ _ (number_of e) (part-number _ _ _ q) (refused e)))

    module _ (at : ℕ) (e : part_in (Ok at) ≡ types_part r) where
      whole : types_fault (types_of r) (multi_length r) 0 [] (drop 65 r) ≡ 0
      whole = sym (part-number _ _ _ e)

      place_is : at ≡ minis_place r
      unfolding minis_place
      place_is = part-bytes _ _ _ e whole

      minis-is : multi_fault r ≡ first_mini (drop (minis_place r) r) ⊳ minis_fault (declared_ids r) 0 (drop (minis_place r) r)
      minis-is = rest-is ∙ ⊳-go _ _ whole

      pub place_inside : at ≤ length r
      unfolding minis_place
      place_inside =
          let a = simp length-drop at (types-enough (types_of r) (multi_length r) 0 [] (drop 65 r) whole) in
          omega (arith, place_is, head-fits r h)

      pub texts-kept : (ids : List (List ℕ)) → ids ≡ declared_ids r → text_ids ids
      unfolding declared_ids
      texts-kept ids k = rw k (types-texts _ _ _ _ _ whole)

      pub multi-first : (x : Refusal) → number_of x ≡ first_mini (drop at r) → part_in (Err x) ≡ multi_part r
      unfolding multi_part
      multi-first x q =
          part-stopped x (multi_fault r) (multi_bytes r)
          (minis-is ∙ sym (stop _ _ (number_of x) (rw place_is at q) (refused x)))

      pub multi-minis : (ids : List (List ℕ)) (q : Part) → 0 ≡ first_mini (drop at r) → ids ≡ declared_ids r
          → q ≡ part_of (minis_fault ids 0 (drop at r)) (at + minis_end 0 (drop at r)) → q ≡ multi_part r
      unfolding multi_part multi_bytes
      multi-minis ids q a k x =
          let passed : first_mini (drop (minis_place r) r) ≡ 0 = sym (rw place_is at a) in
          let last : multi_fault r ≡ minis_fault (declared_ids r) 0 (drop (minis_place r) r) = minis-is ∙ ⊳-go _ _ passed in
          x ∙ rw (place_is, k, last)
