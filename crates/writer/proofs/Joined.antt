-- Values of lines put one behind the other into a run of spaces, and taken apart again by the widths of their lines.
--     stamp-..            a listed word and what stands behind it
--     lined-up given_is   the values of the description's lines
--     integrity-.. closing-is   those of the integrity data
--     head-is count-put   the head's, the content length line's
--     Fills chopped-joined   values that fill their widths, one behind the other, are themselves again
--     fills-formed write-length   values in form fill their lines; what is written of such values has the lines' size
--     parent-put          a parent's two values
-- Assumes nothing.
use Prim.Native.Nat.{ℕ, ◌+◌, ◌*◌, ◌≤◌}
use mathlib.Core.Bool.{Bool, true, false, cond, ◌||◌}
use mathlib.Core.Path.{◌≡◌, refl, sym, ◌∙◌}
use mathlib.Core.List.{List, [], ◌∷◌, ◌++◌, append_assoc, append-nil}
use native.Mathlib.Omega.{arith}
use lib.ListN.{length, take, replicate, length-append, length-take}
use lib.Seq.{take_at, drop_at}
use Rattle.metafile.specs.declared.Description.{Description}
use Rattle.metafile.specs.Bytes.{part, same, member}
use Rattle.metafile.specs.Fields.{digits_of, padded}
use Rattle.metafile.specs.Lines.{fixed, value, lf, Line, opened, lines_of, width, field_width, size, first_of, others_of, put, left, write, formed, time_standard, event_synch}
use Rattle.metafile.specs.Closing.{Integrity, integrity_values}
use Rattle.metafile.specs.Chunk.{header_length_for, dependency_length_for}
use Rattle.metafile.specs.Answers.{placed}
use Rattle.metafile.specs.Append.{sub_format_given, serial_words, stamp_given, given_values, integrity_given}
use Rattle.laws.proofs.Lists.{length-padded}
use Rattle.laws.proofs.Digits.{length-digits_of}
use Rattle.laws.proofs.Table.{formed-width, formed-rest}
use Rattle.lines.specs.Words.{word_no}
use Rattle.lines.specs.Values.{chopped}
use Rattle.writer.specs.Values.{joined, head_values_for}
use Rattle.writer.proofs.Placed.{part-whole, padded-full, spaces, placed-padded, put-padded, put_next}
use Rattle.laws.proofs.First.{or-none}

-- ---- a listed word and 38 bytes

module _ (word serial : List ℕ) (lw : length word ≡ 3) (ls : length serial ≡ 38) where
  pub stamp-without : (f : Bool) (b : List ℕ) → f ≡ false → b ≡ placed 0 word (spaces 41) → b ≡ word ++ cond f serial (replicate 38 32)
  stamp-without f b e q = rw e (put_next 0 3 38 [] word (spaces 41) b refl lw refl q)

  pub stamp-with : (f : Bool) (b b' : List ℕ) → f ≡ true → b ≡ placed 0 word (spaces 41) → b' ≡ placed 3 serial b → b' ≡ word ++ cond f serial (replicate 38 32)
  stamp-with f b b' e q q' =
      rw e (put_next 3 38 0 word serial b b' lw ls (put_next 0 3 38 [] word (spaces 41) b refl lw refl q) q' ∙ append-nil (word ++ serial))

  pub standard-is : (r : List ℕ) (f : Bool) → f ≡ same (part 0 3 word) (word_no 7) → r ≡ word ++ cond f serial (replicate 38 32) → r ≡ stamp_given time_standard.kind word serial
  unfolding stamp_given serial_words time_standard member word_no
  standard-is r f e q = q ∙ rw (e, part-whole word 3 lw, or-none)

  pub event-is : (r : List ℕ) (f g : Bool) → f ≡ same (part 0 3 word) (word_no 8) → g ≡ same (part 0 3 word) (word_no 9)
      → r ≡ word ++ cond (f || g) serial (replicate 38 32) → r ≡ stamp_given event_synch.kind word serial
  unfolding stamp_given serial_words event_synch member word_no
  event-is r f g e e' q = q ∙ rw (e, e', part-whole word 3 lw, or-none)

-- ---- the lines given

module _ (name generic synch standard offset event : List ℕ) where
  pub lined-up : (b₁ b₂ b₃ b₄ b₅ b₆ : List ℕ) → length name ≤ 256 → length generic ≡ 3 → length synch ≡ 3 → length standard ≡ 41 → length offset ≡ 16 → length event ≡ 41
      → b₁ ≡ placed 0 name (spaces 360) → b₂ ≡ placed 256 generic b₁ → b₃ ≡ placed 259 synch b₂ → b₄ ≡ placed 262 standard b₃ → b₅ ≡ placed 303 offset b₄ → b₆ ≡ placed 319 event b₅
      → b₆ ≡ joined (padded 256 name ∷ generic ∷ synch ∷ standard ∷ offset ∷ event ∷ [])
  unfolding joined
  lined-up b₁ b₂ b₃ b₄ b₅ b₆ hn hg hs ht ho he e₁ e₂ e₃ e₄ e₅ e₆ =
      let q : List ℕ = padded 256 name in
      let l₁ : length q ≡ 256 = length-padded 256 name hn in
      let l₂ : length (q ++ generic) ≡ 259 = simp length-append (omega arith) in
      let l₃ : length (q ++ generic ++ synch) ≡ 262 = simp length-append (omega arith) in
      let l₄ : length (q ++ generic ++ synch ++ standard) ≡ 303 = simp length-append (omega arith) in
      let l₅ : length (q ++ generic ++ synch ++ standard ++ offset) ≡ 319 = simp length-append (omega arith) in
      let p₁ : b₁ ≡ q ++ spaces 104 = put-padded 0 256 104 [] name (spaces 360) b₁ refl hn refl e₁ in
      let p₂ : b₂ ≡ q ++ generic ++ spaces 101 = put_next 256 3 101 q generic b₁ b₂ l₁ hg p₁ e₂ in
      let p₃ : b₃ ≡ q ++ generic ++ synch ++ spaces 98 = put_next 259 3 98 (q ++ generic) synch b₂ b₃ l₂ hs p₂ e₃ in
      let p₄ : b₄ ≡ q ++ generic ++ synch ++ standard ++ spaces 57 = put_next 262 41 57 (q ++ generic ++ synch) standard b₃ b₄ l₃ ht p₃ e₄ in
      let p₅ : b₅ ≡ q ++ generic ++ synch ++ standard ++ offset ++ spaces 41 = put_next 303 16 41 (q ++ generic ++ synch ++ standard) offset b₄ b₅ l₄ ho p₄ e₅ in
      put_next 319 41 0 (q ++ generic ++ synch ++ standard ++ offset) event b₅ b₆ l₅ he p₅ e₆ ∙ simp append_assoc

pub given_is : (d : Description) (r standard event : List ℕ)
    → standard ≡ stamp_given time_standard.kind d.standard d.alternate
    → event ≡ stamp_given event_synch.kind d.event d.linked
    → r ≡ joined (padded 256 (take d.subformat.given d.subformat.bytes) ∷ d.generic ∷ d.synch ∷ standard ∷ d.offset ∷ event ∷ [])
    → r ≡ joined (given_values d)
unfolding given_values sub_format_given
given_is d r standard event e e' q = q ∙ rw (e, e')

-- what is given of a text is no longer than it says
pub length-given : (n w : ℕ) (v : List ℕ) → n ≤ w → length (take n v) ≤ w
length-given n w v h = simp length-take (omega arith)

-- ---- the integrity data

pub integrity-put : (serial recorded recorder written writer b₁ b₂ b₃ b₄ b₅ : List ℕ)
    → length serial ≡ 38 → length recorded ≡ 8 → length recorder ≤ 32 → length written ≡ 8 → length writer ≤ 32
    → b₁ ≡ placed 0 serial (replicate 118 32) → b₂ ≡ placed 38 recorded b₁ → b₃ ≡ placed 46 recorder b₂ → b₄ ≡ placed 78 written b₃ → b₅ ≡ placed 86 writer b₄
    → b₅ ≡ serial ++ recorded ++ padded 32 recorder ++ written ++ padded 32 writer
integrity-put serial recorded recorder written writer b₁ b₂ b₃ b₄ b₅ hs hr ha hw hb e₁ e₂ e₃ e₄ e₅ =
    let p₂ : List ℕ = serial ++ recorded in
    let p₃ : List ℕ = p₂ ++ padded 32 recorder in
    let p₄ : List ℕ = p₃ ++ written in
    let l₂ : length p₂ ≡ 46 = simp length-append (omega arith) in
    let l₃ : length p₃ ≡ 78 = simp length-append (omega (arith, length-padded 32 recorder ha)) in
    let l₄ : length p₄ ≡ 86 = simp length-append (omega (arith, length-padded 32 recorder ha)) in
    let q₁ : b₁ ≡ serial ++ spaces 80 = e₁ ∙ rw (padded-full 38 serial hs) at (placed-padded 0 38 80 [] serial refl (omega arith)) in
    let q₂ : b₂ ≡ p₂ ++ spaces 72 = rw (e₂, q₁) (rw (padded-full 8 recorded hr) at (placed-padded 38 8 72 serial recorded hs (omega arith))) in
    let q₃ : b₃ ≡ p₃ ++ spaces 40 = rw (e₃, q₂) (placed-padded 46 32 40 p₂ recorder l₂ ha) in
    let q₄ : b₄ ≡ p₄ ++ spaces 32 = rw (e₄, q₃) (rw (padded-full 8 written hw) at (placed-padded 78 8 32 p₃ written l₃ (omega arith))) in
    rw (e₅, q₄) (placed-padded 86 32 0 p₄ writer l₄ hb ∙ append-nil _)

pub integrity-is : (i : Integrity) (r : List ℕ)
    → r ≡ i.serial ++ i.recording_date ++ padded 32 i.recording_agent ++ i.writing_date ++ padded 32 i.writing_agent → r ≡ joined (integrity_values i)
unfolding joined integrity_values
integrity-is i r q = q ∙ simp (append_assoc, append-nil)

pub closing-is : (d : Description) (r : List ℕ)
    → r ≡ d.serial ++ d.recorded ++ padded 32 (take d.recorder.given d.recorder.bytes) ++ d.written ++ padded 32 (take d.writer.given d.writer.bytes)
    → r ≡ joined (integrity_values (integrity_given d))
unfolding integrity_given
closing-is d = integrity-is (integrity_given d)

-- ---- the head

joined-both : (a b : List (List ℕ)) → joined (a ++ b) ≡ joined a ++ joined b
unfolding joined
joined-both [] b = refl
joined-both (v ∷ a) b = rw (joined-both a b) (sym (append_assoc v (joined a) (joined b)))

pub head-is : (d : Description) (n s : ℕ) (given b₁ b₂ b₃ b₄ : List ℕ) → length given ≡ 360 → given ≡ joined (given_values d)
    → b₁ ≡ placed 0 (digits_of 12 (536 + 344 * n + s)) (spaces 388) → b₂ ≡ placed 12 given b₁
    → b₃ ≡ placed 372 (digits_of 12 (29 + 344 * n)) b₂ → b₄ ≡ placed 384 (digits_of 4 n) b₃
    → b₄ ≡ joined (head_values_for d n s)
unfolding joined head_values_for header_length_for dependency_length_for
head-is d n s given b₁ b₂ b₃ b₄ lg is e₁ e₂ e₃ e₄ =
    let x : List ℕ = digits_of 12 (536 + 344 * n + s) in
    let y : List ℕ = digits_of 12 (29 + 344 * n) in
    let lx : length x ≡ 12 = length-digits_of 12 (536 + 344 * n + s) in
    let ly : length y ≡ 12 = length-digits_of 12 (29 + 344 * n) in
    let l₂ : length (x ++ given) ≡ 372 = simp length-append (omega arith) in
    let l₃ : length (x ++ given ++ y) ≡ 384 = simp length-append (omega arith) in
    let p₁ : b₁ ≡ x ++ spaces 376 = put_next 0 12 376 [] x (spaces 388) b₁ refl lx refl e₁ in
    let p₂ : b₂ ≡ x ++ given ++ spaces 16 = put_next 12 360 16 x given b₁ b₂ lx lg p₁ e₂ in
    let p₃ : b₃ ≡ x ++ given ++ y ++ spaces 4 = put_next 372 12 4 (x ++ given) y b₂ b₃ l₂ ly p₂ e₃ in
    put_next 384 4 0 (x ++ given ++ y) (digits_of 4 n) b₃ b₄ l₃ (length-digits_of 4 n) p₃ e₄
    ∙ rw (is, joined-both (given_values d) (y ∷ digits_of 4 n ∷ [])) (simp append_assoc)

-- the content length, in twelve digits
pub count-put : (n : ℕ) (b : List ℕ) → b ≡ placed 0 (digits_of 12 n) (spaces 12) → b ≡ digits_of 12 n
count-put n b q = put_next 0 12 0 [] (digits_of 12 n) (spaces 12) b refl (length-digits_of 12 n) refl q ∙ append-nil (digits_of 12 n)

-- ---- taken apart

-- each value fills its line's width
unfoldable pub Fills : List Line → List (List ℕ) → Type 0
Fills [] [] = Unit {0}
Fills [] (v ∷ vs) = ⊥
Fills (l ∷ ls) [] = ⊥
Fills (l ∷ ls) (v ∷ vs) = (length v ≡ width l.kind) × Fills ls vs

pub chopped-joined : (ls : List Line) (vs : List (List ℕ)) → Fills ls vs → chopped ls (joined vs) ≡ vs
unfolding chopped joined Fills
chopped-joined [] [] f = refl
chopped-joined [] (v ∷ vs) f = absurd f
chopped-joined (l ∷ ls) [] f = absurd f
chopped-joined (l ∷ ls) (v ∷ vs) f =
    rw (take_at v (joined vs) (width l.kind) f.0, drop_at v (joined vs) (width l.kind) f.0, chopped-joined ls vs f.1)

pub fills-formed : (ls : List Line) (vs : List (List ℕ)) → length vs ≡ length ls → formed (lines_of ls) vs ≡ true → Fills ls vs
unfolding Fills lines_of opened lf left put first_of others_of field_width
fills-formed [] [] h e = tt
fills-formed [] (v ∷ vs) h e = absurd (omega arith)
fills-formed (l ∷ ls) [] h e = absurd (omega arith)
fills-formed (l ∷ ls) (v ∷ vs) h e =
    let value_on : formed (value l.kind ∷ lf ∷ lines_of ls) (v ∷ vs) ≡ true = formed-rest (fixed l.label) (value l.kind ∷ lf ∷ lines_of ls) (v ∷ vs) e in
    let end_on : formed (lf ∷ lines_of ls) vs ≡ true = formed-rest (value l.kind) (lf ∷ lines_of ls) (v ∷ vs) value_on in
    let rest : formed (lines_of ls) (left lf vs) ≡ true = formed-rest lf (lines_of ls) vs end_on in
    (formed-width (value l.kind) (lf ∷ lines_of ls) (v ∷ vs) value_on, fills-formed ls vs (omega arith) rest)

pub write-length : (ls : List Line) (vs : List (List ℕ)) → Fills ls vs → length (write (lines_of ls) vs) ≡ size (lines_of ls)
unfolding Fills lines_of opened lf left put first_of others_of field_width write size
write-length [] [] f = refl
write-length [] (v ∷ vs) f = absurd f
write-length (l ∷ ls) [] f = absurd f
write-length (l ∷ ls) (v ∷ vs) f =
    let a = f.0 in
    let b = write-length ls vs f.1 in
    simp length-append (omega arith)

-- ---- a parent's two values

pub parent-put : (serial name b₁ b₂ : List ℕ) → length serial ≡ 38 → length name ≡ 256 → b₁ ≡ placed 0 serial (spaces 294) → b₂ ≡ placed 38 name b₁
    → b₂ ≡ joined (serial ∷ name ∷ [])
unfolding joined
parent-put serial name b₁ b₂ s n e₁ e₂ =
    put_next 38 256 0 serial name b₁ b₂ s n (put_next 0 38 256 [] serial (spaces 294) b₁ refl s refl e₁) e₂ ∙ simp append_assoc
