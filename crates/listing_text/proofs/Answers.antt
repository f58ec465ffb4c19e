-- The answers of listing, by its two tests: a number and nothing written, or the text. Assumes nothing.
use Prim.Native.Nat.{ℕ, ◌+◌, ◌≤◌, ◌<◌}
use mathlib.Core.Bool.{true, false}
use mathlib.Core.Path.{◌≡◌, refl, sym, ap, ◌∙◌}
use mathlib.Core.List.{List, [], ◌∷◌, ◌++◌}
use native.Mathlib.Omega.{arith}
use lib.Dec.{ltb}
use lib.ListN.{length, take, drop}
use borrow.Author.Tests.{ltb-false, lt-ltb, le-ltb}
use Rattle.metafile.specs.Answers.{count_answer, Answer, result, refused, over_limit, Outcome, outcome, placed}
use Rattle.metafile.specs.Listing.{listing}
use Rattle.laws.proofs.First.{test}
use Rattle.laws.proofs.Loops.{placed-start}
use Rattle.laws.proofs.Accepted.{refusal-first, refusal-next, tests-end}
use Rattle.std.specs.declared.result.Result.TheVariants.{Ok, Err}
use Rattle.metafile.specs.declared.refusal.Refusal.TheVariants.{OverLimit, NoRoom}
use Rattle.text.specs.Put.{Put}
use Rattle.listing_text.specs.Text.{listing_outcome}
use Rattle.laws.proofs.Outcomes.{outcome-refused, outcome-done}

-- the text alone is taken from the local array
text-is : {v b t : List ℕ} {n : ℕ} → Put v 0 b n t → take n t ≡ v
text-is {v} {b} {t} {n} p =
    let e : n ≡ length v = omega (arith, p.end_is) in
    rw (p.bytes-are, e) (placed-start v b)

-- as many bytes of a buffer are written over
pub placed-first : {v b t : List ℕ} {n : ℕ} → Put v 0 b n t → (last : List ℕ) → take n t ++ drop n last ≡ placed 0 (take n t) last
unfolding placed
placed-first {v} {b} {t} {n} p last =
    let long : length (take n t) ≡ n = ap length (text-is p) ∙ omega (arith, p.end_is) in
    let zero : 0 + n ≡ n = omega arith in
    rw (long, zero) refl

module _ (input buffer : List ℕ) where
  pub listing-11 : over_limit (length buffer ∷ []) ≡ true → outcome (count_answer (Err OverLimit)) buffer ≡ listing_outcome input buffer
  unfolding listing_outcome count_answer
  listing-11 h = outcome-refused _ buffer _ 11 (sym (refusal-first 11 _ _ h)) (λ z. omega arith)

  module _ (under : over_limit (length buffer ∷ []) ≡ false) (b t : List ℕ) (n : ℕ) (p : Put (listing input) 0 b n t) where
    pub listing-18 : length buffer < n → outcome (count_answer (Err NoRoom)) buffer ≡ listing_outcome input buffer
    unfolding listing_outcome count_answer
    listing-18 h =
        let short : length buffer < length (listing input) = omega (arith, p.end_is) in
        outcome-refused _ buffer _ 18 (sym (refusal-next 11 _ _ under ∙ refusal-first 18 _ [] (lt-ltb _ _ short))) (λ z. omega arith)

    pub listing-written : n ≤ length buffer → (last : List ℕ) → last ≡ placed 0 (take n t) buffer → outcome (count_answer (Ok n)) last ≡ listing_outcome input buffer
    unfolding listing_outcome count_answer
    listing-written h last e =
        let n-is : n ≡ length (listing input) = omega (arith, p.end_is) in
        let fits : length (listing input) ≤ length buffer = omega arith in
        rw (e, text-is p, n-is)
        (outcome-done _ buffer _ (refusal-next 11 _ _ under ∙ refusal-next 18 _ [] (le-ltb _ _ fits) ∙ tests-end))

-- a text that is written lies inside the buffer
answer-is : {a b : Answer} {x y : List ℕ} → outcome a x ≡ outcome b y → a ≡ b
answer-is e = ap (λ (o : Outcome). o.answer) e

refused-not : {A : Type 0} {n k : ℕ} → result (n ∷ []) ≡ refused k → A
refused-not e = let z : ◌≡◌ {A = ℕ} 0 1 = cc in absurd (omega arith)

result-is : {n k : ℕ} → result (n ∷ []) ≡ result (k ∷ []) → n ≡ k
result-is e = cc

pub written-fits : (input buffer last : List ℕ) (n : ℕ) → outcome (count_answer (Ok n)) last ≡ listing_outcome input buffer → n ≤ length buffer
unfolding listing_outcome count_answer
written-fits input buffer last n e =
    test (over_limit (length buffer ∷ []))
    (λ q. refused-not (answer-is (e ∙ sym (outcome-refused _ buffer _ 11 (sym (refusal-first 11 _ _ q)) (λ z. omega arith)))))
    (λ q. test (ltb (length buffer) (length (listing input)))
    (λ k. refused-not (answer-is (e ∙ sym (outcome-refused _ buffer _ 18 (sym (refusal-next 11 _ _ q ∙ refusal-first 18 _ [] k)) (λ z. omega arith)))))
    (λ k.
    let n-is : n ≡ length (listing input) = result-is (answer-is (e ∙ sym (outcome-done _ buffer _ (refusal-next 11 _ _ q ∙ refusal-next 18 _ [] k ∙ tests-end)))) in
    omega (arith, ltb-false (length buffer) (length (listing input)) k)))
