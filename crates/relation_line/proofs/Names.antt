-- The name of a relation chunk, padded with spaces, and the name of a relation line, its first field.
--     relations-name         its 256 bytes
--     named-..               12 bytes, and a tab or nothing behind them
-- Assumes nothing.
use Prim.Native.Nat.{ℕ, ◌<◌}
use mathlib.Core.Bool.{Bool, true, false, ◌&&◌}
use mathlib.Core.Path.{◌≡◌, refl, sym, ◌∙◌}
use mathlib.Core.List.{List, [], ◌∷◌}
use native.Mathlib.Omega.{arith}
use native.Mathlib.Nat.{le_of_eq}
use lib.Dec.{eqb}
use lib.ListN.{length, take, drop, get_or, length-take, drop_of_length-le}
use lib.Seq.{drop-cons}
use borrow.Author.Tests.{eq-eqb, eqb-true}
use Rattle.metafile.specs.Bytes.{bytes, same}
use Rattle.metafile.specs.Fields.{padded}
use Rattle.metafile.specs.Lines.{first_of}
use Rattle.metafile.specs.Append.{is_in}
use Rattle.metafile.specs.Relations.{relations_name, onto_first, split_on, relation_name}
use Rattle.laws.proofs.First.{test, untrue, and_both, or-false}
use Rattle.laws.proofs.Lists.{same-eq}
use Rattle.search.proofs.Laws.{same-lengths}
use Rattle.relation_line.specs.Form.{has_name}

-- ---- the name of a relation chunk

pub relations-name : (v : List ℕ) (b : Bool) → length v ≡ 256 → b ≡ same v (padded (length v) (bytes "ADS\\SYS\\Relations")) → b ≡ same v relations_name
unfolding relations_name
relations-name v b h e = rw h at e

-- ---- the first field

first-none : first_of (split_on 9 []) ≡ []
unfolding split_on first_of
first-none = refl

first-tab : (x : ℕ) (s : List ℕ) → eqb x 9 ≡ true → first_of (split_on 9 (x ∷ s)) ≡ []
unfolding split_on first_of
first-tab x s q = rw q

first-onto : (x : ℕ) (vs : List (List ℕ)) → first_of (onto_first x vs) ≡ x ∷ first_of vs
unfolding first_of onto_first
first-onto x [] = refl
first-onto x (v ∷ vs) = refl

first-other : (x : ℕ) (s : List ℕ) → eqb x 9 ≡ false → first_of (split_on 9 (x ∷ s)) ≡ x ∷ first_of (split_on 9 s)
unfolding split_on
first-other x s q = rw q (first-onto x (split_on 9 s))

-- a tab, or nothing more
unfoldable is_end : List ℕ → Bool
is_end [] = true
is_end (x ∷ s) = eqb x 9

first-is : (n s : List ℕ) → is_in 9 n ≡ false
    → same (first_of (split_on 9 s)) n ≡ (same (take (length n) s) n && is_end (drop (length n) s))
unfolding same is_end is_in
first-is [] [] h = rw first-none
first-is [] (x ∷ s) h = test (eqb x 9) (λ q. rw (first-tab x s q, q)) (λ q. rw (first-other x s q, q))
first-is (y ∷ n) [] h = rw first-none
first-is (y ∷ n) (x ∷ s) h =
    let k = or-false (eqb 9 y) (is_in 9 n) h in
    test (eqb x 9)
    (λ q.
    test (eqb x y)
    (λ z. untrue (sym k.0 ∙ eq-eqb 9 y (sym (eqb-true x 9 q) ∙ eqb-true x y z)))
    (λ z. rw (first-tab x s q, z)))
    (λ q.
    rw (first-other x s q, first-is n s k.1)
    (test (eqb x y) (λ z. rw z) (λ z. rw z)))

-- ---- the name of a relation line

module _ (line : List ℕ) where
  named-is : has_name line ≡ (same (take 12 line) (bytes "ADS relation") && is_end (drop 12 line))
  unfolding relation_name is_in
  named-is = first-is (bytes "ADS relation") line refl

  pub named-front : has_name line ≡ true → take 12 line ≡ relation_name
  unfolding relation_name
  named-front e =
      same-eq (take 12 line) (bytes "ADS relation")
      (and_both (same (take 12 line) (bytes "ADS relation")) (is_end (drop 12 line)) (sym named-is ∙ e)).0

  pub named_other : false ≡ same (take 12 line) (bytes "ADS relation") → false ≡ has_name line
  named_other e = sym (named-is ∙ rw (← e))

  pub named-short : length line < 12 → false ≡ has_name line
  named-short h =
      named_other (same-lengths (take 12 line) (bytes "ADS relation") (λ e. absurd (omega (arith, length-take 12 line, e))))

  pub named-alone : length line ≡ 12 → true ≡ same (take 12 line) (bytes "ADS relation") → true ≡ has_name line
  unfolding is_end
  named-alone l e = sym (named-is ∙ rw (← e, drop_of_length-le line {i = 12} (le_of_eq l)))

  pub named-tab : 12 < length line → true ≡ same (take 12 line) (bytes "ADS relation") → eqb (get_or line 12 0) 9 ≡ has_name line
  unfolding is_end
  named-tab l e = sym (named-is ∙ rw (← e, drop-cons line 12 0 l))
