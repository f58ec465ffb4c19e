-- Append's tests in their order, 11, 12, 6, 17, 13, 9, 15, 16, 18, and what each that does not refuse leaves known.
--     refused-..   the first test that refuses gives the number; not-refused: none does
--     is-taken     all but 18 passed: the new chunk's lengths are known, and so where it would end
-- Assumes nothing.
use Prim.Native.Nat.{ℕ, ◌+◌, ◌*◌, ◌^◌, ◌≤◌, ◌<◌}
use mathlib.Core.Bool.{true, false, not}
use mathlib.Core.Path.{◌≡◌, refl, sym, ◌∙◌}
use mathlib.Core.List.{List, [], ◌∷◌, ◌++◌}
use native.Mathlib.Omega.{arith}
use lib.Dec.{ltb}
use lib.ListN.{length, take}
use lib.Seq.{length-take-le}
use borrow.Author.Tests.{lt-ltb, le-ltb, ltb-false, not-false}
use Rattle.metafile.specs.Bytes.{all, non_zero, same}
use Rattle.metafile.specs.Fields.{known}
use Rattle.metafile.specs.Header.{mark_of}
use Rattle.metafile.specs.Chunk.{multi_name}
use Rattle.metafile.specs.Reading.{reading, rows_of, serials_of, is_clean}
use Rattle.metafile.specs.Answers.{Test, refuse, first_refusal, over_limit}
use Rattle.metafile.specs.Append.{Given, sub_format_given, append_formed, parents_wrong, first_end, second_end, third_end, open_wrong, append_over_limit, append_tests}
use Rattle.laws.proofs.First.{test, or-false}
use Rattle.laws.proofs.Accepted.{refusal-first, refusal-next, refusal-none}
use Rattle.chunk_laws.proofs.File.{clean-parts}
use Rattle.written_laws.proofs.Taken.{Taken, within, formed-parts, parents-parts}
use Rattle.written_laws.proofs.Stretches.{length-first, length-third}
use Rattle.append.specs.Tests.{description_tests, file_tests, open_refused}
use Rattle.writer.specs.Parents.{parents_refused}
use Rattle.append.proofs.Held.{refused_none}
use Rattle.append.proofs.Surveyed.{tests_of}

-- a group of tests that refuses decides
refused-group : (ts us : List Test) → (first_refusal ts ≡ 0 → ⊥) → first_refusal (ts ++ us) ≡ first_refusal ts
unfolding first_refusal
refused-group [] us n = absurd (n refl)
refused-group (t ∷ ts) us n =
    test t.holds (λ q. rw q) (λ q. rw q (refused-group ts us (λ z. n (rw q z))))

-- ---- in their order

-- the lengths of what is lent
abbrev pub sizes : List ℕ → Given → List ℕ
sizes buffer g =
    length buffer
    ∷ length g.specific
    ∷ length g.contents
    ∷ g.description.subformat.given
    ∷ g.description.recorder.given
    ∷ g.description.writer.given
    ∷ []

module _ (buffer : List ℕ) (len : ℕ) (g : Given) where
  old : List ℕ
  old = take len buffer

  behind : List Test
  behind = refuse 16 (open_wrong old g) ∷ refuse 18 (ltb (length buffer) (third_end old g)) ∷ []

  -- the tests as groups
  grouped : append_tests buffer len g
      ≡ refuse 11 (append_over_limit buffer len g)
      ∷ refuse 12 (not (is_clean old (reading old)))
      ∷ (description_tests g.description ++ (tests_of old g.parents g.description.serial ++ behind))
  unfolding append_tests description_tests file_tests parents_wrong parents_refused behind old
  grouped = refl

  pub refused-11 : append_over_limit buffer len g ≡ true → 11 ≡ first_refusal (append_tests buffer len g)
  refused-11 e = rw grouped (sym (refusal-first 11 _ _ e))

  module _ (lent : append_over_limit buffer len g ≡ false) where
    small : over_limit (sizes buffer g) ≡ false
    unfolding append_over_limit
    small = (or-false (over_limit (sizes buffer g)) (ltb (length buffer) len) lent).0

    pub inside : len ≤ length buffer
    unfolding append_over_limit
    inside = ltb-false (length buffer) len (or-false (over_limit (sizes buffer g)) (ltb (length buffer) len) lent).1

    pub buffer-small : length buffer ≤ 2 ^ 30
    buffer-small = (within (length buffer) _ small).0

    pub specific-small : length g.specific ≤ 2 ^ 30
    specific-small = (within (length g.specific) _ (within (length buffer) _ small).1).0

    pub contents-small : length g.contents ≤ 2 ^ 30
    contents-small = (within (length g.contents) _ (within (length g.specific) _ (within (length buffer) _ small).1).1).0

    pub refused-12 : is_clean (take len buffer) (reading (take len buffer)) ≡ false → 12 ≡ first_refusal (append_tests buffer len g)
    unfolding old
    refused-12 e = rw grouped (sym (refusal-next 11 _ _ lent ∙ refusal-first 12 (not (is_clean (take len buffer) (reading (take len buffer)))) _ (rw e)))

    module _ (clean : is_clean (take len buffer) (reading (take len buffer)) ≡ true) where
      -- 11 and 12 passed
      described : first_refusal (append_tests buffer len g)
          ≡ first_refusal (description_tests g.description ++ (tests_of (take len buffer) g.parents g.description.serial ++ behind))
      unfolding old
      described = rw grouped (refusal-next 11 _ _ lent ∙ refusal-next 12 (not (is_clean (take len buffer) (reading (take len buffer)))) _ (rw clean))

      pub refused-own : (n : ℕ) → n ≡ first_refusal (description_tests g.description) → (n ≡ 0 → ⊥) → n ≡ first_refusal (append_tests buffer len g)
      refused-own n e z = e ∙ sym (described ∙ refused-group (description_tests g.description) _ (λ q. z (e ∙ q)))

      module _ (own : first_refusal (description_tests g.description) ≡ 0) where
        own-parts : (append_formed g.description ≡ true) × (same (sub_format_given g.description) multi_name ≡ false)
        unfolding description_tests
        own-parts =
            let h6 = refusal-none 5 (not (append_formed g.description)) _ own in
            let h17 = refusal-none 16 _ _ h6.1 in
            (not-false _ h6.0, h17.0)

        -- 6 and 17 passed
        filed : first_refusal (append_tests buffer len g) ≡ first_refusal (tests_of (take len buffer) g.parents g.description.serial ++ behind)
        unfolding description_tests
        filed =
            let form = own-parts.0 in
            described ∙ refusal-next 6 (not (append_formed g.description)) _ (rw form) ∙ refusal-next 17 _ _ own-parts.1

        pub refused-there : (n : ℕ) → n ≡ first_refusal (tests_of (take len buffer) g.parents g.description.serial) → (n ≡ 0 → ⊥) → n ≡ first_refusal (append_tests buffer len g)
        refused-there n e z = e ∙ sym (filed ∙ refused-group (tests_of (take len buffer) g.parents g.description.serial) _ (λ q. z (e ∙ q)))

        module _ (there : first_refusal (tests_of (take len buffer) g.parents g.description.serial) ≡ 0) where
          there-parts : (parents_wrong (rows_of (take len buffer)) g.parents ≡ false)
              × (known g.description.serial (serials_of (rows_of (take len buffer))) ≡ false)
              × (all non_zero (mark_of (take len buffer)) ≡ true)
          unfolding file_tests parents_wrong parents_refused
          there-parts =
              let h13 = refusal-none 12 _ _ there in
              let h9 = refusal-none 8 _ _ h13.1 in
              let h15 = refusal-none 14 (not (all non_zero (mark_of (take len buffer)))) _ h9.1 in
              (h13.0, h9.0, not-false _ h15.0)

          pub parents-few : length g.parents ≤ 16
          parents-few = (parents-parts (take len buffer) g there-parts.0).1

          -- 13, 9 and 15 passed
          left_over : first_refusal (append_tests buffer len g) ≡ first_refusal behind
          unfolding file_tests parents_wrong parents_refused
          left_over =
              let clear = there-parts.2 in
              filed ∙ refusal-next 13 _ _ there-parts.0 ∙ refusal-next 9 _ _ there-parts.1 ∙ refusal-next 15 (not (all non_zero (mark_of (take len buffer)))) _ (rw clear)

          open-refused : open_wrong (take len buffer) g ≡ open_refused (take len buffer) g.description.generic g.contents g.is_open
          unfolding open_wrong open_refused
          open-refused = refl

          pub refused-16 : open_refused (take len buffer) g.description.generic g.contents g.is_open ≡ true → 16 ≡ first_refusal (append_tests buffer len g)
          unfolding behind old
          refused-16 e = sym (left_over ∙ refusal-first 16 _ _ (open-refused ∙ e))

          module _ (closed : open_refused (take len buffer) g.description.generic g.contents g.is_open ≡ false) where
            is-taken : Taken (take len buffer) g
            is-taken =
                let cleanly = clean-parts (take len buffer) clean in
                let form = formed-parts g own-parts.0 in
                let named = parents-parts (take len buffer) g there-parts.0 in
                record {
                  specific-small = specific-small;
                  contents-small = contents-small;
                  some_bytes = cleanly.0;
                  number-zero = cleanly.1;
                  stop-end = cleanly.2;
                  in-given = form.0;
                  in-integrity = form.1;
                  plain = own-parts.1;
                  parents-below = named.0;
                  parents-few = named.1;
                  new-serial = there-parts.1;
                  clear = there-parts.2;
                  open-right = open-refused ∙ closed;
                }

            end_is : (mark : ℕ) → mark ≡ length (mark_of (take len buffer))
                → third_end (take len buffer) g ≡ len + (602 + 344 * length g.parents + length g.specific) + length g.contents + (254 + 2 * mark)
            unfolding third_end second_end first_end
            end_is mark e =
                omega (arith, length-take-le len buffer inside, length-first (take len buffer) g is-taken, length-third (take len buffer) g is-taken)

            room : first_refusal (append_tests buffer len g) ≡ first_refusal (refuse 18 (ltb (length buffer) (third_end (take len buffer) g)) ∷ [])
            unfolding behind old
            room = left_over ∙ refusal-next 16 _ _ (open-refused ∙ closed)

            module _ (mark end : ℕ) (m : mark ≡ length (mark_of (take len buffer))) (is : end ≡ len + (602 + 344 * length g.parents + length g.specific) + length g.contents + (254 + 2 * mark)) where
              pub refused-18 : length buffer < end → 18 ≡ first_refusal (append_tests buffer len g)
              refused-18 h = sym (room ∙ refusal-first 18 _ [] (lt-ltb (length buffer) _ (omega (arith, end_is mark m))))

              pub not-refused : end ≤ length buffer → 0 ≡ first_refusal (append_tests buffer len g)
              not-refused h = sym (room ∙ refusal-next 18 _ [] (le-ltb (length buffer) _ (omega (arith, end_is mark m))) ∙ refused_none)
