-- The answers of pack, by its tests 11 and 18, and of unpack, by 11, the first wrong block, and 18: a number and nothing written,
-- or the length and the bytes.
--     pack-11 pack-18 pack-done      the answers of pack
--     unpack-11 unpack-wrong unpack-refused unpack-18 unpack-done   those of unpack; a wrong block by its number, and by its refusal
-- Assumes nothing.
use Rattle.std.proofs.Common.{◌≡◌, ℕ, ◌<◌, ◌≤◌, true, false, not, List, [], ◌∷◌, length, sym, ap, ◌∙◌, arith, le-ltb, lt-ltb}
use Rattle.std.specs.declared.result.Result.TheVariants.{Ok, Err}
use Rattle.metafile.specs.Bytes.{non_zero}
use Rattle.metafile.specs.Answers.{refused, outcome, over_limit, placed, count_answer}
use Rattle.metafile.specs.Refusals.{number_of}
use Rattle.metafile.specs.declared.refusal.Refusal.{Refusal}
use Rattle.metafile.specs.declared.refusal.Refusal.TheVariants.{OverLimit, NoRoom}
use Rattle.laws.proofs.First.{is_zero-is, is_zero-not}
use Rattle.laws.proofs.Accepted.{refusal-first, refusal-next, tests-end}
use Rattle.laws.proofs.Outcomes.{outcome-refused, outcome-done}
use Rattle.lines.proofs.Runs.{refused as refused-number}
use Rattle.blocks.specs.Blocks.{packed, unpack_fault, unpacked, pack_tests, pack, unpack_tests, unpack}

-- ---- pack

module _ (file buffer : List ℕ) where
  pub pack-11 : over_limit (length file ∷ length buffer ∷ []) ≡ true → outcome (count_answer (Err OverLimit)) buffer ≡ pack file buffer
  unfolding pack pack_tests count_answer
  pack-11 e = outcome-refused _ buffer _ 11 (sym (refusal-first 11 _ _ e)) (λ z. omega arith)

  module _ (within : over_limit (length file ∷ length buffer ∷ []) ≡ false) where
    pub pack-18 : length buffer < length (packed file) → outcome (count_answer (Err NoRoom)) buffer ≡ pack file buffer
    unfolding pack pack_tests count_answer
    pack-18 h =
        outcome-refused _ buffer _ 18
        (sym (refusal-next 11 _ _ within ∙ refusal-first 18 _ [] (lt-ltb (length buffer) (length (packed file)) h))) (λ z. omega arith)

    pub pack-done : {n : ℕ} {last : List ℕ} → n ≡ length (packed file) → n ≤ length buffer → last ≡ placed 0 (packed file) buffer
        → outcome (count_answer (Ok n)) last ≡ pack file buffer
    unfolding pack pack_tests count_answer
    pack-done {n} long fits e =
        let room : length (packed file) ≤ length buffer = omega arith in
        rw (long, e)
        (outcome-done _ buffer _
        (refusal-next 11 _ _ within ∙ refusal-next 18 _ [] (le-ltb (length buffer) (length (packed file)) room) ∙ tests-end))

-- ---- unpack

is-wrong : (f : ℕ) → (f ≡ 0 → ⊥) → non_zero f ≡ true
unfolding non_zero
is-wrong f n = ap not (is_zero-not f n)

no-wrong : (f : ℕ) → f ≡ 0 → non_zero f ≡ false
unfolding non_zero
no-wrong f z = ap not (is_zero-is f z)

module _ (x buffer : List ℕ) where
  pub unpack-11 : over_limit (length x ∷ length buffer ∷ []) ≡ true → outcome (count_answer (Err OverLimit)) buffer ≡ unpack x buffer
  unfolding unpack unpack_tests count_answer
  unpack-11 e = outcome-refused _ buffer _ 11 (sym (refusal-first 11 _ _ e)) (λ z. omega arith)

  module _ (within : over_limit (length x ∷ length buffer ∷ []) ≡ false) where
    pub unpack-wrong : {f : ℕ} → f ≡ unpack_fault x → (f ≡ 0 → ⊥) → outcome (refused f) buffer ≡ unpack x buffer
    unfolding unpack unpack_tests
    unpack-wrong {f} e n =
        outcome-refused _ buffer _ f
        (e ∙ sym (refusal-next 11 _ _ within ∙ refusal-first (unpack_fault x) _ _ (is-wrong (unpack_fault x) (λ z. n (e ∙ z))))) n

    pub unpack-refused : (r : Refusal) → number_of r ≡ unpack_fault x → outcome (count_answer (Err r)) buffer ≡ unpack x buffer
    unfolding count_answer
    unpack-refused r e = unpack-wrong e (refused-number r)

    module _ (right : unpack_fault x ≡ 0) where
      pub unpack-18 : length buffer < length (unpacked x) → outcome (count_answer (Err NoRoom)) buffer ≡ unpack x buffer
      unfolding unpack unpack_tests count_answer
      unpack-18 h =
          outcome-refused _ buffer _ 18
          (sym (refusal-next 11 _ _ within
          ∙ refusal-next (unpack_fault x) _ _ (no-wrong (unpack_fault x) right)
          ∙ refusal-first 18 _ [] (lt-ltb (length buffer) (length (unpacked x)) h))) (λ z. omega arith)

      pub unpack-done : {n : ℕ} {last : List ℕ} → n ≡ length (unpacked x) → n ≤ length buffer → last ≡ placed 0 (unpacked x) buffer
          → outcome (count_answer (Ok n)) last ≡ unpack x buffer
      unfolding unpack unpack_tests count_answer
      unpack-done {n} long fits e =
          let room : length (unpacked x) ≤ length buffer = omega arith in
          rw (long, e)
          (outcome-done _ buffer _
          (refusal-next 11 _ _ within
          ∙ refusal-next (unpack_fault x) _ _ (no-wrong (unpack_fault x) right)
          ∙ refusal-next 18 _ [] (le-ltb (length buffer) (length (unpacked x)) room)
          ∙ tests-end))
