-- Rows named as parents, 13: "row not in the reading; parents repeated or over 16".
--     named_again   one among those behind it
--     many few    over 16 or not
--     not_there twice wrong-next wrong-end   the rows named, one after the other
-- Assumes nothing.
use Prim.Native.Nat.{ℕ, suc, ◌+◌, ◌-◌, ◌≤◌, ◌<◌}
use mathlib.Core.Bool.{Bool, true, false, not, ◌||◌}
use mathlib.Core.Path.{◌≡◌, refl, sym, ◌∙◌}
use mathlib.Core.List.{List, [], ◌∷◌}
use native.Mathlib.Numerals.{add-one}
use native.Mathlib.Omega.{arith}
use lib.Dec.{eqb}
use lib.ListN.{length, take, drop, get_or, length-drop, drop_of_length-le}
use lib.Seq.{take_all, drop-cons}
use borrow.Author.Tests.{lt-ltb, le-ltb, eq-eqb, ne_eqb, eqb-true, eqb-false}
use Rattle.std.specs.List.{list_any}
use Rattle.metafile.specs.Append.{all_below, is_in, repeated}
use Rattle.laws.proofs.First.{test, or_right, or-none}
use Rattle.writer.specs.Parents.{parents_refused}

eqb-comm : (a b : ℕ) → eqb a b ≡ eqb b a
eqb-comm a b = test (eqb a b) (λ e. e ∙ sym (eq-eqb b a (sym (eqb-true a b e)))) (λ e. e ∙ sym (ne_eqb b a (λ q. eqb-false a b e (sym q))))

-- among the others, as the library looks for it
in-others : (k : ℕ) (ks : List ℕ) → list_any (λ y. eqb y k) ks ≡ is_in k ks
unfolding is_in
in-others k [] = refl
in-others k (x ∷ ks) = rw (eqb-comm x k, in-others k ks)

pub named_again : (ks : List ℕ) (i : ℕ) (k : ℕ) (r : Bool) → r ≡ list_any (λ y. eqb y k) (take (length ks - (i + 1)) (drop (i + 1) ks)) → is_in k (drop (i + 1) ks) ≡ r
named_again ks i k r e =
    let whole = take_all (length ks - (i + 1)) (drop (i + 1) ks) (simp length-drop (omega arith)) in
    sym (e ∙ rw whole (in-others k (drop (i + 1) ks)))

-- a row that is not in the reading, or named twice
abbrev pub some_wrong : ℕ → List ℕ → Bool
some_wrong n ks = not (all_below n ks) || repeated ks

module _ (n : ℕ) (ks : List ℕ) where
  pub many : 16 < length ks → true ≡ parents_refused n ks
  unfolding parents_refused
  many h = sym (or_right (some_wrong n ks) _ (lt-ltb 16 (length ks) h))

  pub few : length ks ≤ 16 → parents_refused n ks ≡ some_wrong n ks
  unfolding parents_refused
  few h = rw (le-ltb 16 (length ks) h) (or-none (some_wrong n ks))

module _ (n : ℕ) (ks : List ℕ) (i : ℕ) (r : Bool) (e : r ≡ some_wrong n (drop i ks)) where
  pub wrong-end : length ks ≤ i → false ≡ r
  unfolding all_below repeated
  wrong-end h = sym (e ∙ rw (drop_of_length-le ks h))

  module _ (h : i < length ks) where
    pub not_there : n ≤ get_or ks i 0 → true ≡ r
    unfolding all_below
    not_there l = sym (e ∙ rw (drop-cons ks i 0 h, le-ltb (get_or ks i 0) n l))

    pub twice : is_in (get_or ks i 0) (drop (i + 1) ks) ≡ true → true ≡ r
    unfolding repeated
    twice q =
        let p = rw (add-one i) at q in
        sym (e ∙ rw (drop-cons ks i 0 h, p) (or_right (not (all_below n (get_or ks i 0 ∷ drop (suc i) ks))) true refl))

    pub wrong-next : get_or ks i 0 < n → is_in (get_or ks i 0) (drop (i + 1) ks) ≡ false → r ≡ some_wrong n (drop (i + 1) ks)
    unfolding all_below repeated
    wrong-next l q = let p = rw (add-one i) at q in e ∙ rw (add-one i, drop-cons ks i 0 h, lt-ltb (get_or ks i 0) n l, p)
