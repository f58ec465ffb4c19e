-- "11 a lent byte buffer over 2^30", for any number of lengths, as code tests them: `(LIMIT < a) | (LIMIT < b) | ..`.
--     chained      the tests one behind the other, from the left
--     over-limit   they say what over_limit says of the lengths
-- Assumes nothing.
use Prim.Native.Nat.{ℕ}
use mathlib.Core.Bool.{Bool, true, false, ◌||◌}
use mathlib.Core.List.{List, [], ◌∷◌}
use mathlib.Core.Path.{◌≡◌, refl, sym, ◌∙◌}
use lib.Dec.{ltb}
use Rattle.metafile.specs.Answers.{limit, over_limit}
use Rattle.laws.proofs.First.{or-none}

unfoldable pub chained : Bool → List ℕ → Bool
chained b [] = b
chained b (n ∷ ns) = chained (b || ltb limit n) ns

or-behind : (a b c : Bool) → ((a || b) || c) ≡ (a || (b || c))
or-behind true b c = refl
or-behind false b c = refl

over-limit-step : (b : Bool) (ns : List ℕ) → chained b ns ≡ (b || over_limit ns)
unfolding chained over_limit
over-limit-step b [] = sym (or-none b)
over-limit-step b (n ∷ ns) = over-limit-step (b || ltb limit n) ns ∙ or-behind b (ltb limit n) (over_limit ns)

pub over-limit : (n : ℕ) (ns : List ℕ) → chained (ltb limit n) ns ≡ over_limit (n ∷ ns)
unfolding over_limit
over-limit n ns = over-limit-step (ltb limit n) ns
