-- The answers of write, by its tests ("11 is tested first and 18 .. last").
--     headed-length                  the buffer with the heading line
--     refused-11 refused-18 written  a number only and nothing written, or the text
-- Assumes nothing.
use Prim.Native.Nat.{ℕ, ◌+◌, ◌*◌, ◌≤◌, ◌<◌}
use mathlib.Core.Bool.{true, false}
use mathlib.Core.Path.{◌≡◌, refl, sym, ap, ◌∙◌}
use mathlib.Core.List.{List, [], ◌∷◌, ◌++◌, append_assoc}
use native.Mathlib.Omega.{arith}
use lib.ListN.{length, length-append}
use borrow.Author.Tests.{lt-ltb, le-ltb}
use Rattle.std.specs.declared.result.Result.TheVariants.{Ok, Err}
use Rattle.metafile.specs.declared.refusal.Refusal.TheVariants.{OverLimit, NoRoom}
use Rattle.metafile.specs.Answers.{over_limit, outcome, placed, count_answer}
use Rattle.metafile.specs.Relations.{divided, lined, heading, relation_lines, relations_text, relations_write_tests, relations_write}
use Rattle.laws.proofs.Loops.{placed-length, placed-placed}
use Rattle.laws.proofs.Accepted.{refusal-first, refusal-next, tests-end}
use Rattle.laws.proofs.Outcomes.{outcome-refused, outcome-done}
use Rattle.relation_laws.proofs.Written.{text-length}

heading-length : length (heading ++ 10 ∷ []) ≡ 131
unfolding heading divided
heading-length = refl

pub headed-length : (b buffer : List ℕ) → 131 ≤ length buffer → b ≡ placed 0 (heading ++ 10 ∷ []) buffer
    → length b ≡ length buffer
headed-length b buffer h e = rw e (placed-length 0 (heading ++ 10 ∷ []) buffer (omega (arith, heading-length)))

text-is : (file : List ℕ) → (heading ++ 10 ∷ []) ++ lined (relation_lines file) ≡ relations_text file
unfolding relations_text lined
text-is file = append_assoc heading (10 ∷ []) (lined (relation_lines file))

module _ (file buffer : List ℕ) where
  pub refused-11 : over_limit (length file ∷ length buffer ∷ []) ≡ true
      → outcome (count_answer (Err OverLimit)) buffer ≡ relations_write file buffer
  unfolding relations_write relations_write_tests count_answer
  refused-11 e = outcome-refused _ buffer _ 11 (sym (refusal-first 11 _ _ e)) (λ z. omega arith)

  module _ (s : over_limit (length file ∷ length buffer ∷ []) ≡ false) (n : ℕ)
      (is : n ≡ 131 + 605 * length (relation_lines file)) where
    pub refused-18 : length buffer < n → outcome (count_answer (Err NoRoom)) buffer ≡ relations_write file buffer
    unfolding relations_write relations_write_tests count_answer
    refused-18 h =
        let short : length buffer < length (relations_text file) = omega (arith, text-length file) in
        outcome-refused _ buffer _ 18 (sym (refusal-next 11 _ _ s ∙ refusal-first 18 _ [] (lt-ltb _ _ short)))
        (λ z. omega arith)

    module _ (h : n ≤ length buffer) (p : ℕ) (e : p ≡ 131) (b after : List ℕ)
        (first : b ≡ placed 0 (heading ++ 10 ∷ []) buffer) (last : after ≡ placed p (lined (relation_lines file)) b) where
      text-put : after ≡ placed 0 (relations_text file) buffer
      text-put =
          let place : p ≡ 0 + length (heading ++ 10 ∷ []) = omega (arith, heading-length) in
          let room : 0 + length (heading ++ 10 ∷ []) + length (lined (relation_lines file)) ≤ length buffer =
          omega (
            arith,
            text-length file,
            ap length (text-is file),
            length-append (heading ++ 10 ∷ []) (lined (relation_lines file)),
          ) in
          last
          ∙ rw (first, place) (placed-placed 0 (heading ++ 10 ∷ []) (lined (relation_lines file)) buffer room)
          ∙ ap (λ (x : List ℕ). placed 0 x buffer) (text-is file)

      pub written : outcome (count_answer (Ok n)) after ≡ relations_write file buffer
      unfolding relations_write relations_write_tests count_answer
      written =
          let fits : length (relations_text file) ≤ length buffer = omega (arith, text-length file) in
          let long : n ≡ length (relations_text file) = omega (arith, text-length file) in
          rw (long, text-put)
          (outcome-done _ buffer _ (refusal-next 11 _ _ s ∙ refusal-next 18 _ [] (le-ltb _ _ fits) ∙ tests-end))
