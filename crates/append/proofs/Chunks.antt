-- The three writes of an accepted append, as they come together in the buffer.
--     Going going      nothing refuses: what was given fits, and there is room for the chunk
--     first-is first-put   the first write: head, parents, specific data, content length line
--     closing-is chunk-put   the data and the closing behind it
--     outcome-written  the answer and the buffer
-- Assumes nothing.
use Prim.Native.Nat.{ℕ, ◌+◌, ◌-◌, ◌*◌, ◌≤◌}
use mathlib.Core.Bool.{true, cond, not}
use mathlib.Core.Path.{◌≡◌, refl, sym, ap, ◌∙◌}
use mathlib.Core.List.{List, [], ◌∷◌, ◌++◌, append_assoc, append-nil}
use native.Mathlib.Omega.{arith}
use lib.ListN.{length, take, length-append}
use lib.Seq.{length-take-le}
use borrow.Author.Tests.{not-false}
use Rattle.metafile.specs.Bytes.{part}
use Rattle.metafile.specs.Fields.{digits_of}
use Rattle.metafile.specs.Lines.{lf, lines_of, size, put, left, write, formed, table, content_length}
use Rattle.metafile.specs.Closing.{integrity_lines, integrity_values, summed_bytes, closing_bytes}
use Rattle.metafile.specs.Header.{mark_of, header_fault}
use Rattle.metafile.specs.Chunk.{head}
use Rattle.metafile.specs.Reading.{reading}
use Rattle.std.specs.declared.result.Result.TheVariants.{Ok}
use Rattle.metafile.specs.declared.Ends.{Ends}
use Rattle.metafile.specs.Answers.{outcome, append_answer, first_refusal, placed, unless_refused}
use Rattle.metafile.specs.Append.{Given, integrity_given, given_values, append_formed, head_values, content_count_for, first_write, third_write, new_chunk, first_end, second_end, third_end, append_tests, append}
use Rattle.metafile.specs.Demand.{Accepted}
use Rattle.laws.proofs.First.{choose-go}
use Rattle.laws.proofs.Digits.{length-digits_of}
use Rattle.laws.proofs.Table.{formed-split, lefts, write-split}
use Rattle.laws.proofs.Closed.{fixed-formed}
use Rattle.laws.proofs.Distances.{lines}
use Rattle.laws.proofs.Accepted.{refusal-none}
use Rattle.laws.proofs.Outcomes.{outcome-done}
use Rattle.chunk_laws.proofs.File.{clean-begun}
use Rattle.written_laws.proofs.Taken.{Taken, Lent, Appended, accepted}
use Rattle.written_laws.proofs.Formed.{formed-head}
use Rattle.written_laws.proofs.Stretches.{head_part, line_part, length-head, length-line, length-first, length-third}
use Rattle.table.specs.Codes.{lines_from}
use Rattle.lines.specs.Values.{chopped, values_size, closing_for}
use Rattle.append.specs.Given.{ends_of}
use Rattle.writer.specs.Values.{joined, head_values_for}
use Rattle.writer.proofs.Joined.{Fills, chopped-joined}
use Rattle.writer.proofs.Described.{Fits, formed-fits}
use Rattle.writer.proofs.Joined.{fills-formed}
use Rattle.writer.proofs.Placed.{placed-next, part_placed, take-placed}
use Rattle.writer.proofs.Rows.{parent_lines, parents-length}

-- ---- the lines of the table

pub head-size : values_size (lines_from 0 9) ≡ 388
unfolding lines_from table values_size lines
head-size = refl

pub head_bytes : size (lines_of (lines_from 0 9)) ≡ 568
unfolding lines_from table lines
head_bytes = refl

pub line-size : values_size (lines_from 11 1) ≡ 12
unfolding lines_from table values_size lines
line-size = refl

pub line-bytes : size (lines_of (lines_from 11 1)) ≡ 34
unfolding lines_from table lines
line-bytes = refl

-- ---- an accepted append

-- nothing refuses
pub record Going (buffer : List ℕ) (len : ℕ) (g : Given) : Type 0 where
  pub taken : Taken (take len buffer) g
  pub lent : Lent buffer len g
  pub fits : Fits g.description
  pub begun : header_fault (take len buffer) ≡ 0
  pub old-long : length (take len buffer) ≡ len
  pub first-long : length (first_write (take len buffer) g) ≡ 602 + 344 * length g.parents + length g.specific
  pub first-end : first_end (take len buffer) g ≡ len + (602 + 344 * length g.parents + length g.specific)
  pub third-long : length (third_write (take len buffer) g) ≡ length (mark_of (take len buffer)) + 254 + length (mark_of (take len buffer))
  pub room : len + (602 + 344 * length g.parents + length g.specific) + length g.contents + (length (mark_of (take len buffer)) + 254 + length (mark_of (take len buffer))) ≤ length buffer

module _ (buffer : List ℕ) (len : ℕ) (g : Given) (e : first_refusal (append_tests buffer len g) ≡ 0) where
  appended : Appended buffer len g (first_end (take len buffer) g) (second_end (take len buffer) g) (third_end (take len buffer) g)
  unfolding Accepted append unless_refused
  appended = accepted buffer len g _ _ _ (rw (choose-go (first_refusal (append_tests buffer len g)) _ _ e))

  in-form : append_formed g.description ≡ true
  unfolding append_tests
  in-form =
      let h11 = refusal-none 10 _ _ e in
      let h12 = refusal-none 11 _ _ h11.1 in
      not-false _ (refusal-none 5 (not (append_formed g.description)) _ h12.1).0

  pub going : Going buffer len g
  unfolding third_end second_end first_end reading
  going =
      let t = appended.is-taken in
      let l = appended.is-lent in
      let long = length-take-le len buffer l.file-inside in
      let one : length (first_write (take len buffer) g) ≡ 602 + 344 * length g.parents + length g.specific = omega (arith, length-first (take len buffer) g t) in
      let three = length-third (take len buffer) g t in
      record {
        taken = t;
        lent = l;
        fits = formed-fits g.description in-form;
        begun = clean-begun (length (take len buffer)) (take len buffer) t.some_bytes t.number-zero;
        old-long = long;
        first-long = one;
        first-end = omega arith;
        third-long = three;
        room = omega (arith, l.room);
      }

abbrev pub three_ends : ℕ → ℕ → ℕ → Ends
three_ends e₁ e₂ e₃ = record { first = e₁; second = e₂; third = e₃ }

-- ---- the first write

module _ (old : List ℕ) (g : Given) (a : Taken old g) where
  head-values-is : head_values_for g.description (length g.parents) (length g.specific) ≡ head_values g
  unfolding head_values_for head_values
  head-values-is = refl

  head-lines : lines_of (lines_from 0 9) ≡ head ++ (lf ∷ [])
  unfolding lines_from table lines head
  head-lines = refl

  head-formed : formed (lines_of (lines_from 0 9)) (head_values g) ≡ true
  unfolding lf formed
  head-formed =
      rw (head-lines, formed-split head (lf ∷ []) (head_values g), formed-head old g a)
      (fixed-formed (10 ∷ []) [] (lefts head (head_values g)))

  head-fills : Fills (lines_from 0 9) (head_values g)
  unfolding lines_from table head_values given_values
  head-fills = fills-formed (lines_from 0 9) (head_values g) refl head-formed

  -- the head, its LF included
  head-written : (v : List ℕ) → v ≡ joined (head_values_for g.description (length g.parents) (length g.specific))
      → write (lines_of (lines_from 0 9)) (chopped (lines_from 0 9) v) ≡ head_part g ++ (10 ∷ [])
  unfolding head_part lf write put
  head-written v e =
      rw (e, head-values-is, chopped-joined (lines_from 0 9) (head_values g) head-fills, head-lines)
      (write-split head (lf ∷ []) (head_values g))

  line-fills : (n : ℕ) → Fills (content_length ∷ []) (digits_of 12 n ∷ [])
  unfolding Fills lines
  line-fills n = (length-digits_of 12 n, tt)

  line-written : (v : List ℕ) → v ≡ digits_of 12 (content_count_for g.is_open g.contents)
      → write (lines_of (lines_from 11 1)) (chopped (lines_from 11 1) v) ≡ line_part g
  unfolding line_part lines_from table joined
  line-written v e =
      let n : ℕ = content_count_for g.is_open g.contents in
      rw e (ap (write (lines_of (content_length ∷ []))) (rw append-nil at (chopped-joined (content_length ∷ []) (digits_of 12 n ∷ []) (line-fills n))))

  -- the four stretches are the first write
  first-is : (head_part g ++ (10 ∷ []) ++ parent_lines old g.parents) ++ g.specific ++ line_part g ≡ first_write old g
  unfolding first_write head_part line_part parent_lines lf write put left
  first-is = simp append_assoc

module _ (buffer : List ℕ) (len : ℕ) (g : Given) (a : Going buffer len g) where
  -- bytes put at the old end leave the file as it is
  pub file-kept : (v b : List ℕ) → b ≡ placed len v buffer → take len b ≡ take len buffer
  file-kept v b e = ap (take len) e ∙ take-placed len len v buffer (omega arith) a.lent.file-inside

  pub first-put : (values count b₁ b₂ b₃ b₄ : List ℕ) (p₁ p₂ p₃ p₄ : ℕ)
      → values ≡ joined (head_values_for g.description (length g.parents) (length g.specific))
      → count ≡ digits_of 12 (cond g.is_open 0 (length g.contents + 1))
      → p₁ ≡ len + size (lines_of (lines_from 0 9)) → b₁ ≡ placed len (write (lines_of (lines_from 0 9)) (chopped (lines_from 0 9) values)) buffer
      → p₂ ≡ p₁ + 344 * length g.parents → b₂ ≡ placed p₁ (parent_lines (take len b₁) g.parents) b₁
      → p₃ ≡ p₂ + length g.specific → b₃ ≡ placed p₂ g.specific b₂
      → p₄ ≡ p₃ + size (lines_of (lines_from 11 1)) → b₄ ≡ placed p₃ (write (lines_of (lines_from 11 1)) (chopped (lines_from 11 1) count)) b₃
      → (p₄ ≡ first_end (take len buffer) g) × (b₄ ≡ placed len (first_write (take len buffer) g) buffer)
  unfolding first_end content_count_for
  first-put values count b₁ b₂ b₃ b₄ p₁ p₂ p₃ p₄ ev ec f₁ e₁ f₂ e₂ f₃ e₃ f₄ e₄ =
      let old : List ℕ = take len buffer in
      let top : List ℕ = head_part g ++ (10 ∷ []) in
      let deps : List ℕ = parent_lines old g.parents in
      let room = a.room in
      let long-top : length top ≡ 568 = simp length-append (omega (arith, length-head old g a.taken)) in
      let long-deps : length deps ≡ 344 * length g.parents = parents-length old g.parents a.taken.parents-below in
      let long-both : length (top ++ deps) ≡ 568 + 344 * length g.parents = omega (arith, length-append top deps) in
      let long-three : length (top ++ deps ++ g.specific) ≡ 568 + 344 * length g.parents + length g.specific = omega (arith, length-append (top ++ deps) g.specific) in
      let long-line : length (line_part g) ≡ 34 = length-line old g a.taken in
      let at₁ : p₁ ≡ len + length top = omega (arith, head_bytes) in
      let at₂ : p₂ ≡ len + length (top ++ deps) = omega (arith, head_bytes) in
      let at₃ : p₃ ≡ len + length (top ++ deps ++ g.specific) = omega (arith, head_bytes) in
      let q₁ : b₁ ≡ placed len top buffer = e₁ ∙ ap (λ (v : List ℕ). placed len v buffer) (head-written old g a.taken values ev) in
      let kept : take len b₁ ≡ old = file-kept top b₁ q₁ in
      let q₂ : b₂ ≡ placed len (top ++ deps) buffer =
      placed-next len p₁ top deps buffer b₁ b₂ q₁ at₁ (omega arith) (e₂ ∙ ap (λ (o : List ℕ). placed p₁ (parent_lines o g.parents) b₁) kept) in
      let q₃ : b₃ ≡ placed len (top ++ deps ++ g.specific) buffer = placed-next len p₂ (top ++ deps) g.specific buffer b₂ b₃ q₂ at₂ (omega arith) e₃ in
      let q₄ : b₄ ≡ placed len (top ++ deps ++ g.specific ++ line_part g) buffer =
      placed-next len p₃ (top ++ deps ++ g.specific) (line_part g) buffer b₃ b₄ q₃ at₃ (omega arith) (e₄ ∙ ap (λ (v : List ℕ). placed p₃ v b₃) (line-written old g a.taken count ec)) in (
        omega (arith, f₄, at₃, long-three, line-bytes, a.old-long, a.first-long),
        q₄ ∙ ap (λ (v : List ℕ). placed len v buffer) (first-is old g a.taken),
      )

  -- ---- data and closing

  closing-fills : Fills integrity_lines (integrity_values (integrity_given g.description))
  unfolding integrity_lines integrity_values
  closing-fills = fills-formed integrity_lines (integrity_values (integrity_given g.description)) refl a.taken.in-integrity

  closing-is : (m v before : List ℕ) → m ≡ mark_of (take len buffer) → v ≡ joined (integrity_values (integrity_given g.description))
      → before ≡ first_write (take len buffer) g ++ g.contents
      → closing_for m (chopped integrity_lines v) before ≡ third_write (take len buffer) g
  unfolding closing_for third_write closing_bytes summed_bytes
  closing-is m v before em ev eb =
      rw (em, eb, ev, chopped-joined integrity_lines (integrity_values (integrity_given g.description)) closing-fills)

  pub chunk-put : (m values b₁ b₂ b₃ : List ℕ) (e₁ e₂ e₃ : ℕ) → m ≡ mark_of (take len buffer) → values ≡ joined (integrity_values (integrity_given g.description))
      → e₁ ≡ first_end (take len buffer) g → b₁ ≡ placed len (first_write (take len buffer) g) buffer
      → e₂ ≡ e₁ + length g.contents → b₂ ≡ placed e₁ g.contents b₁
      → e₃ ≡ e₂ + length m + 254 + length m → b₃ ≡ placed e₂ (closing_for m (chopped integrity_lines values) (part len (e₂ - len) b₂)) b₂
      → (three_ends e₁ e₂ e₃ ≡ ends_of (take len buffer) g) × (b₃ ≡ placed len (new_chunk (take len buffer) g) buffer)
  unfolding first_end second_end third_end new_chunk
  chunk-put m values b₁ b₂ b₃ e₁ e₂ e₃ em ev f₁ q₁ f₂ q₂ f₃ q₃ =
      let old : List ℕ = take len buffer in
      let one : List ℕ = first_write old g in
      let three : List ℕ = third_write old g in
      let room = a.room in
      let long-one = a.first-long in
      let long-three = a.third-long in
      let long-old = a.old-long in
      let inside = a.lent.file-inside in
      let long-two : length (one ++ g.contents) ≡ length one + length g.contents = length-append one g.contents in
      let at₁ : e₁ ≡ len + length one = omega arith in
      let at₂ : e₂ ≡ len + length (one ++ g.contents) = omega arith in
      let r₂ : b₂ ≡ placed len (one ++ g.contents) buffer = placed-next len e₁ one g.contents buffer b₁ b₂ q₁ at₁ (omega arith) q₂ in
      let span : e₂ - len ≡ length (one ++ g.contents) = omega arith in
      let before : part len (e₂ - len) b₂ ≡ one ++ g.contents = rw (span, r₂) (part_placed len (one ++ g.contents) buffer inside) in
      let r₃ : b₃ ≡ placed len (one ++ g.contents ++ three) buffer =
      placed-next len e₂ (one ++ g.contents) three buffer b₂ b₃ r₂ at₂ (omega arith)
      (q₃ ∙ ap (λ (v : List ℕ). placed e₂ v b₂) (closing-is m values (part len (e₂ - len) b₂) em ev before)) in
      let long-mark : length m ≡ length (mark_of old) = ap length em in
      let end₂ : e₂ ≡ length old + length one + length g.contents = omega arith in
      let end₃ : e₃ ≡ length old + length one + length g.contents + length three = omega arith in
      (rw (f₁, end₂, end₃), r₃)

-- ---- the outcome

module _ (buffer : List ℕ) (len : ℕ) (g : Given) where
  pub outcome-written : (r : Ends) (after : List ℕ) → 0 ≡ first_refusal (append_tests buffer len g) → r ≡ ends_of (take len buffer) g
      → after ≡ placed len (new_chunk (take len buffer) g) buffer → outcome (append_answer (Ok r)) after ≡ append buffer len g
  unfolding append append_answer
  outcome-written r after e er ea = rw (er, ea) (outcome-done (append_tests buffer len g) buffer _ (sym e))
