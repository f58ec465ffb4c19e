-- What an accepted append says of its tests ("Append tests 11, 12, 6, 17, 13, 9, 15, 16, 18"): none holds.
--     taken    of the file and what was given: the record Taken of specs/
--     Lent     of the buffer: the file lies in it, the new end too, and it is not over 2^30
--     accepted   both, the three ends, and the buffer afterwards
-- Assumes nothing.
use Prim.Native.Nat.{ℕ, ◌^◌, ◌≤◌}
use mathlib.Core.Bool.{true, false, not, ◌&&◌, ◌||◌}
use mathlib.Core.Path.{◌≡◌, sym, ap, ◌∙◌}
use mathlib.Core.List.{List, [], ◌∷◌}
use lib.Dec.{ltb}
use lib.ListN.{length, take}
use borrow.Author.Tests.{ltb-false, not-false}
use Rattle.metafile.specs.Lines.{lines_of, formed}
use Rattle.metafile.specs.Closing.{integrity_lines, integrity_values}
use Rattle.metafile.specs.Chunk.{given_lines}
use Rattle.metafile.specs.Reading.{rows_of}
use Rattle.metafile.specs.Answers.{result, limit, over_limit, Outcome, placed, first_refusal}
use Rattle.metafile.specs.Append.{Given, given_values, integrity_given, over_long, append_formed, all_below, repeated, parents_wrong, new_chunk, first_end, second_end, third_end, append_over_limit, append_tests, append}
use Rattle.metafile.specs.Demand.{Accepted}
pub use Rattle.written_laws.specs.Taken.{Taken}
use Rattle.laws.proofs.First.{and_both, or-false}
use Rattle.laws.proofs.Accepted.{refusal-none, accepted-none, accepted-is}
use Rattle.chunk_laws.proofs.File.{clean-parts}

pub record Lent (buffer : List ℕ) (len : ℕ) (g : Given) : Type 0 where
  pub buffer-small : length buffer ≤ 2 ^ 30
  pub file-inside : len ≤ length buffer
  pub room : third_end (take len buffer) g ≤ length buffer

-- a list of lengths that aren't over the limit
pub within : (n : ℕ) (ns : List ℕ) → over_limit (n ∷ ns) ≡ false → (n ≤ 2 ^ 30) × (over_limit ns ≡ false)
unfolding over_limit limit
within n ns e =
    let h = or-false (ltb (2 ^ 30) n) (over_limit ns) e in
    (ltb-false (2 ^ 30) n h.0, h.1)

pub formed-parts : (g : Given) → append_formed g.description ≡ true
    → (formed (lines_of given_lines) (given_values g.description) ≡ true)
    × (formed (lines_of integrity_lines) (integrity_values (integrity_given g.description)) ≡ true)
unfolding append_formed
formed-parts g e =
    let h = and_both (not (over_long g.description) && formed (lines_of given_lines) (given_values g.description)) _ e in
    ((and_both (not (over_long g.description)) _ h.0).1, h.1)

pub parents-parts : (old : List ℕ) (g : Given) → parents_wrong (rows_of old) g.parents ≡ false
    → (all_below (length (rows_of old)) g.parents ≡ true) × (length g.parents ≤ 16)
unfolding parents_wrong
parents-parts old g e =
    let h = or-false (not (all_below (length (rows_of old)) g.parents) || repeated g.parents) (ltb 16 (length g.parents)) e in
    (not-false _ (or-false (not (all_below (length (rows_of old)) g.parents)) _ h.0).0, ltb-false 16 _ h.1)

taken : (buffer : List ℕ) (len : ℕ) (g : Given) → first_refusal (append_tests buffer len g) ≡ 0 → Taken (take len buffer) g × Lent buffer len g
unfolding append_tests append_over_limit
taken buffer len g e =
    let old : List ℕ = take len buffer in
    let h11 = refusal-none 10 _ _ e in
    let h12 = refusal-none 11 _ _ h11.1 in
    let h6 = refusal-none 5 _ _ h12.1 in
    let h17 = refusal-none 16 _ _ h6.1 in
    let h13 = refusal-none 12 _ _ h17.1 in
    let h9 = refusal-none 8 _ _ h13.1 in
    let h15 = refusal-none 14 _ _ h9.1 in
    let h16 = refusal-none 15 _ _ h15.1 in
    let h18 = refusal-none 17 _ _ h16.1 in
    let over = or-false (over_limit _) (ltb (length buffer) len) h11.0 in
    let l1 = within (length buffer) _ over.0 in
    let l2 = within (length g.specific) _ l1.1 in
    let l3 = within (length g.contents) _ l2.1 in
    let clean = clean-parts old (not-false _ h12.0) in
    let form = formed-parts g (not-false _ h6.0) in
    let named = parents-parts old g h13.0 in (
      record {
        specific-small = l2.0;
        contents-small = l3.0;
        some_bytes = clean.0;
        number-zero = clean.1;
        stop-end = clean.2;
        in-given = form.0;
        in-integrity = form.1;
        plain = h17.0;
        parents-below = named.0;
        parents-few = named.1;
        new-serial = h9.0;
        clear = not-false _ h15.0;
        open-right = h16.0;
      },
      record { buffer-small = l1.0; file-inside = ltb-false _ _ over.1; room = ltb-false _ _ h18.0 },
    )

-- ---- an accepted append

pub record Appended (buffer : List ℕ) (len : ℕ) (g : Given) (e₁ e₂ e₃ : ℕ) : Type 0 where
  pub is-taken : Taken (take len buffer) g
  pub is-lent : Lent buffer len g
  pub buffer-is : (append buffer len g).buffer ≡ placed len (new_chunk (take len buffer) g) buffer
  pub first-end : e₁ ≡ first_end (take len buffer) g
  pub second-end : e₂ ≡ second_end (take len buffer) g
  pub third-end : e₃ ≡ third_end (take len buffer) g

same_ends : (a b c x y z : ℕ) → result (a ∷ b ∷ c ∷ []) ≡ result (x ∷ y ∷ z ∷ []) → (x ≡ a) × (y ≡ b) × (z ≡ c)
same_ends a b c x y z e =
    let p : x ≡ a = cc in
    let q : y ≡ b = cc in
    let r : z ≡ c = cc in
    (p, q, r)

pub accepted : (buffer : List ℕ) (len : ℕ) (g : Given) (e₁ e₂ e₃ : ℕ) → Accepted buffer len g e₁ e₂ e₃ → Appended buffer len g e₁ e₂ e₃
unfolding Accepted append
accepted buffer len g e₁ e₂ e₃ e =
    let old : List ℕ = take len buffer in
    let done : Outcome = record { answer = result (first_end old g ∷ second_end old g ∷ third_end old g ∷ []); buffer = placed len (new_chunk old g) buffer } in
    let is : append buffer len g ≡ done = accepted-is (append_tests buffer len g) buffer done (e₁ ∷ e₂ ∷ e₃ ∷ []) e in
    let t = taken buffer len g (accepted-none (append_tests buffer len g) buffer done (e₁ ∷ e₂ ∷ e₃ ∷ []) e) in
    let ends = same_ends _ _ _ e₁ e₂ e₃ (sym (ap (λ (o : Outcome). o.answer) is) ∙ e) in
    record {
      is-taken = t.0;
      is-lent = t.1;
      buffer-is = ap (λ (o : Outcome). o.buffer) is;
      first-end = ends.0;
      second-end = ends.1;
      third-end = ends.2;
    }
