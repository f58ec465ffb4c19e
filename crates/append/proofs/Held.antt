-- Append's tests in groups: the description's 6 and 17, and those held against the file, 12, 13, 9, 15 and 16.
--     clean_is      12
--     refused-6 refused-17 described   the description's two in their order
--     refused-13 refused-9 refused-15 held   the three in their order
--     closed-right open_is   16
-- Assumes nothing.
use Prim.Native.Nat.{ℕ}
use mathlib.Core.Bool.{Bool, true, false, not, ◌||◌}
use mathlib.Core.Path.{◌≡◌, refl, sym, ◌∙◌}
use mathlib.Core.List.{List, [], ◌++◌}
use lib.Dec.{ltb}
use lib.ListN.{length}
use Rattle.metafile.specs.declared.Description.{Description}
use Rattle.metafile.specs.Bytes.{part, all, non_zero, same, find}
use Rattle.metafile.specs.Header.{is_llc, mark_of}
use Rattle.metafile.specs.Chunk.{multi_name}
use Rattle.metafile.specs.Reading.{reading, clean_at, is_clean}
use Rattle.metafile.specs.Answers.{first_refusal}
use Rattle.metafile.specs.Append.{sub_format_given, append_formed}
use Rattle.laws.proofs.Accepted.{refusal-first, refusal-next}
use Rattle.lines.specs.Words.{word_no}
use Rattle.writer.proofs.Placed.{part-whole}
use Rattle.append.specs.Tests.{description_tests, file_tests, open_refused}
use Rattle.writer.specs.Parents.{parents_refused}

-- ---- 12

pub clean_is : (file : List ℕ) (number stop : ℕ) → number ≡ (reading file).number → stop ≡ (reading file).stop → clean_at (length file) number stop ≡ is_clean file (reading file)
unfolding is_clean
clean_is file number stop n e = rw (n, e)

-- ---- 6, 17

pub refused_none : first_refusal [] ≡ 0
unfolding first_refusal
refused_none = refl

module _ (d : Description) where
  pub refused-6 : append_formed d ≡ false → 6 ≡ first_refusal (description_tests d)
  unfolding description_tests
  refused-6 e = sym (refusal-first 6 (not (append_formed d)) _ (rw e))

  pub refused-17 : append_formed d ≡ true → same (sub_format_given d) multi_name ≡ true → 17 ≡ first_refusal (description_tests d)
  unfolding description_tests
  refused-17 f e = sym (refusal-next 6 (not (append_formed d)) _ (rw f) ∙ refusal-first 17 _ [] e)

  pub described : append_formed d ≡ true → same (sub_format_given d) multi_name ≡ false → 0 ≡ first_refusal (description_tests d)
  unfolding description_tests
  described f e = sym (refusal-next 6 (not (append_formed d)) _ (rw f) ∙ refusal-next 17 _ [] e ∙ refused_none)

-- ---- 13, 9, 15

module _ (file : List ℕ) (n : ℕ) (is_known : Bool) (parents : List ℕ) where
  pub refused-13 : parents_refused n parents ≡ true → 13 ≡ first_refusal (file_tests file n is_known parents)
  unfolding file_tests
  refused-13 e = sym (refusal-first 13 _ _ e)

  module _ (p : parents_refused n parents ≡ false) where
    pub refused-9 : is_known ≡ true → 9 ≡ first_refusal (file_tests file n is_known parents)
    unfolding file_tests
    refused-9 k = sym (refusal-next 13 _ _ p ∙ refusal-first 9 _ _ k)

    module _ (new : is_known ≡ false) where
      pub refused-15 : all non_zero (mark_of file) ≡ false → 15 ≡ first_refusal (file_tests file n is_known parents)
      unfolding file_tests
      refused-15 e = sym (refusal-next 13 _ _ p ∙ refusal-next 9 _ _ new ∙ refusal-first 15 (not (all non_zero (mark_of file))) [] (rw e))

      pub held : all non_zero (mark_of file) ≡ true → 0 ≡ first_refusal (file_tests file n is_known parents)
      unfolding file_tests
      held e = sym (refusal-next 13 _ _ p ∙ refusal-next 9 _ _ new ∙ refusal-next 15 (not (all non_zero (mark_of file))) [] (rw e) ∙ refused_none)

-- ---- 16

pub closed-right : (file generic contents : List ℕ) (f : Bool) → f ≡ false → false ≡ open_refused file generic contents f
unfolding open_refused
closed-right file generic contents f e = rw e

pub open_is : (file generic contents mark : List ℕ) (f llc word : Bool) (found : ℕ) → f ≡ true → length generic ≡ 3
    → llc ≡ is_llc file → mark ≡ mark_of file → found ≡ find mark (contents ++ mark) → word ≡ same (part 0 3 generic) (word_no 2)
    → ((llc || word) || ltb found (length contents)) ≡ open_refused file generic contents f
unfolding open_refused word_no
open_is file generic contents mark f llc word found e lg el em ef ew = rw (e, el, ew, ef, em, part-whole generic 3 lg)
