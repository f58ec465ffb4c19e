-- `limits::over_limit` meets its contract. Assumes nothing.
use Rattle.std.proofs.Common.{ℕ, ◌<◌, ◌≤◌, Bool, true, false, ltb, List, length, Decides, MatchBool, refl, arith, rules, tests}
use Rattle.std.specs.List.{HoldsAt, AllWithin}
use Rattle.std.proofs.lemmas.Iterator.{cases_from_any, YieldsList-from_slice}
use Rattle.std.proofs.lemmas.Bool.{false≢true}
use Rattle.std.proofs.lemmas.Bool.Decides.{same_from_decides, Decides-by_or, Decides-ltb}
use Rattle.metafile.specs.Answers.{limit, over_limit}
use Rattle.metafile.proofs.limits.over_limit.Goals as goal

abbrev HasOver : List ℕ → Type 0
HasOver ns = (k : ℕ) × (k < length ns) × HoldsAt (λ n. 1073741824 < n) ns k

Decides-from_cases : (r : Bool) (ns : List ℕ) → MatchBool r (HasOver ns) (AllWithin (λ n. n ≤ 1073741824) ns 0 (length ns)) → Decides r (HasOver ns)
Decides-from_cases true ns h = (λ _. h, λ _. refl)
Decides-from_cases false ns h =
    (λ e. absurd (false≢true e), λ w. absurd (omega (arith, h w.0 0 (omega arith) w.1, w.2 0)))

pub returns : goal.returns
unfolding limit over_limit
returns c =
    let ns = c.args.lengths.now in
    let by_call = cases_from_any _ _ _ (λ n. 1073741824 < n) (λ n. n ≤ 1073741824) c.any.ensures.ran (YieldsList-from_slice ns cc) (λ x q k. search (rules, tests)) (λ x q k. search (rules, tests)) in
    let by_spec = Decides-by_or (ltb 1073741824) (λ n. 1073741824 < n) over_limit (Decides-ltb 1073741824) refl (λ _ _. refl) ns in
    same_from_decides _ (over_limit ns) (Decides-from_cases _ ns by_call) by_spec
