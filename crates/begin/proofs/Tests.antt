-- The tests of begin in their order, and its outcome: "begin 11, 6, 2, 3, 15, 18", the first that refuses is the answer.
--     empty-is                          a test as the code makes it
--     refused-.. passed                 the first test that refuses gives the number; none does
--     accepted outcome-written          what is known where no test refuses, and the outcome
-- Assumes nothing.
use Prim.Native.Nat.{ℕ, suc, ◌+◌, ◌*◌, ◌≤◌, ◌<◌}
use mathlib.Core.Bool.{Bool, true, false, ◌&&◌}
use mathlib.Core.Path.{◌≡◌, ◌∙◌}
use mathlib.Core.List.{List, [], ◌∷◌}
use native.Mathlib.Omega.{arith}
use lib.Dec.{eqb}
use lib.ListN.{length}
use borrow.Author.Tests.{lt-ltb, le-ltb, ne_eqb, not-false}
use Rattle.std.specs.declared.result.Result.TheVariants.{Ok}
use Rattle.metafile.specs.Bytes.{all, non_zero, is_empty, same, starts}
use Rattle.metafile.specs.Lines.{NUL}
use Rattle.metafile.specs.Multi.{mini_label}
use Rattle.metafile.specs.Answers.{count_answer, outcome, refuse, first_refusal, over_limit, placed}
use Rattle.metafile.specs.Begin.{BeginGiven, begun_file, begin_formed, begin_tests, begin}
use Rattle.laws.proofs.Accepted.{refusal-none}
use Rattle.laws.proofs.Begun.{begin-taken}
use Rattle.laws.proofs.Outcomes.{outcome-done}
use Rattle.begin.proofs.Formed.{header-length}

-- ---- a test, as the code makes it

pub empty-is : (v : List ℕ) (r : Bool) → r ≡ eqb (length v) 0 → r ≡ is_empty v
unfolding is_empty
empty-is [] r e = e
empty-is (x ∷ v) r e = e ∙ ne_eqb (suc (length v)) 0 (λ z. omega arith)

-- ---- tests in their order

module _ (b : BeginGiven) (buffer : List ℕ) (within : over_limit (length buffer ∷ length b.mark ∷ length b.integrity.recording_agent ∷ length b.integrity.writing_agent ∷ []) ≡ false) (formed : begin_formed b ≡ true) where
  pub refused-2 : (same b.strategy NUL && is_empty b.mark) ≡ true → 2 ≡ first_refusal (begin_tests b buffer)
  unfolding begin_tests first_refusal refuse
  refused-2 e = rw (within, formed, e)

  module _ (title : (same b.strategy NUL && is_empty b.mark) ≡ false) where
    pub refused-3 : starts mini_label b.mark ≡ true → 3 ≡ first_refusal (begin_tests b buffer)
    unfolding begin_tests first_refusal refuse
    refused-3 e = rw (within, formed, title, e)

    module _ (plain : starts mini_label b.mark ≡ false) where
      pub refused-15 : all non_zero b.mark ≡ false → 15 ≡ first_refusal (begin_tests b buffer)
      unfolding begin_tests first_refusal refuse
      refused-15 e = rw (within, formed, title, plain, e)

      module _ (clear : all non_zero b.mark ≡ true) where
        pub refused-18 : length buffer < 319 + 2 * length b.mark → 18 ≡ first_refusal (begin_tests b buffer)
        unfolding begin_tests first_refusal refuse
        refused-18 h =
            let short = lt-ltb (length buffer) (length (begun_file b)) (rw (header-length b formed) h) in
            rw (within, formed, title, plain, clear, short)

        pub passed : 319 + 2 * length b.mark ≤ length buffer → 0 ≡ first_refusal (begin_tests b buffer)
        unfolding begin_tests first_refusal refuse
        passed h =
            let fits = le-ltb (length buffer) (length (begun_file b)) (rw (header-length b formed) h) in
            rw (within, formed, title, plain, clear, fits)

-- ---- the outcome

module _ (b : BeginGiven) (buffer : List ℕ) where
  pub accepted : first_refusal (begin_tests b buffer) ≡ 0 → (begin_formed b ≡ true) × (length (begun_file b) ≤ length buffer)
  unfolding begin_tests
  accepted e = (not-false _ (refusal-none 5 _ _ (refusal-none 10 _ _ e).1).0, (begin-taken b buffer e).room)

  pub outcome-written : (k : ℕ) (after : List ℕ) → first_refusal (begin_tests b buffer) ≡ 0 → k ≡ length (begun_file b) → after ≡ placed 0 (begun_file b) buffer
      → outcome (count_answer (Ok k)) after ≡ begin b buffer
  unfolding begin count_answer
  outcome-written k after e ek ea = rw (ek, ea) (outcome-done (begin_tests b buffer) buffer _ e)
