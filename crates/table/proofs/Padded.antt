-- Names padded with spaces: the bytes of a field are such a name if its first ones are the name, and all others are spaces.
-- Assumes nothing.
use Prim.Native.Nat.{ℕ, ◌-◌, ◌≤◌, ◌<◌}
use mathlib.Core.Bool.{Bool, true, false, ◌&&◌}
use mathlib.Core.Path.{◌≡◌, refl, sym, ap, ◌∙◌}
use mathlib.Core.List.{List, [], ◌∷◌, ◌++◌}
use native.Mathlib.Omega.{arith}
use lib.Dec.{eqb}
use lib.ListN.{length, take, drop, replicate, length-append, length-drop, take-append-drop}
use Rattle.std.proofs.lemmas.List.{take-replicate}
use lib.Seq.{length-take-le}
use Rattle.metafile.specs.Bytes.{same}
use Rattle.metafile.specs.Fields.{padded}
use Rattle.laws.proofs.First.{test}
use Rattle.laws.proofs.Lists.{same-eq}

same-append : (a b n k : List ℕ) → length a ≡ length n → same (a ++ b) (n ++ k) ≡ (same a n && same b k)
unfolding same
same-append [] b [] k e = refl
same-append [] b (y ∷ n) k e = absurd (omega arith)
same-append (x ∷ a) b [] k e = absurd (omega arith)
same-append (x ∷ a) b (y ∷ n) k e =
    rw (same-append a b n k (omega arith)) (test (eqb x y) (λ q. rw q) (λ q. rw q))

-- v a field, t a name; first and rest the field's bytes up to the name's length and behind it, x and y how they compare
module _ (v t : List ℕ) where
  pub padded-short : length v < length t → false ≡ same v (padded (length v) t)
  unfolding padded
  padded-short h =
      test (same v (padded (length v) t))
      (λ q. absurd (omega (arith, ap length (same-eq v (padded (length v) t) q), length-append t (replicate (length v - length t) 32))))
      (λ q. sym q)

  module _ {first rest : List ℕ} (f : first ≡ take (length t) v) (r : rest ≡ drop (length t) v) (h : length t ≤ length v) (k : length v ≤ 256) where
    padded_is : same v (padded (length v) t) ≡ (same first t && same rest (take {A = ℕ} (length rest) (replicate 256 32)))
    unfolding padded
    padded_is =
        let long : length rest ≡ length v - length t = rw r (simp length-drop) in
        let spaces : take {A = ℕ} (length rest) (replicate 256 32) ≡ replicate (length v - length t) 32 = rw long (take-replicate (length v - length t) 256 32 (omega arith)) in
        rw (spaces, f, r)
        (ap (λ (u : List ℕ). same u (padded (length v) t)) (sym (take-append-drop (length t) v))
        ∙ same-append (take (length t) v) (drop (length t) v) t (replicate (length v - length t) 32) (length-take-le (length t) v h))

    pub padded-good : {x y : Bool} → x ≡ same first t → x ≡ true → y ≡ same rest (take {A = ℕ} (length rest) (replicate 256 32)) → y ≡ same v (padded (length v) t)
    padded-good a z b = b ∙ sym (padded_is ∙ rw (← a, z))

    pub padded-other : {x : Bool} → x ≡ same first t → x ≡ false → x ≡ same v (padded (length v) t)
    padded-other a z = z ∙ sym (padded_is ∙ rw (← a, z))
