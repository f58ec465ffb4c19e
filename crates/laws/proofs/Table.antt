-- The field rule, and the laws of a run over a stretch of fields: each once, by induction over the stretch, with one
-- lemma for a kind.
--     field-..    one field: enough bytes, its own judgement, the same with more bytes behind
--     run-enough  a run that passes ends inside s
--     run-local   a run that ends inside s is the same on s ++ t
--     run-clear   a run of strict fields that passes has no zero byte; run-split, run_at: its parts
--     write-size, write-run, write-at   what the writer puts fills its widths, passes the reader, and stands at its distance
-- Assumes nothing.
use Prim.Native.Nat.{ℕ, ◌+◌, ◌≤◌, ◌<◌}
use mathlib.Core.Bool.{Bool, true, false, ◌&&◌}
use mathlib.Core.Path.{◌≡◌, refl, sym, ◌∙◌}
use mathlib.Core.List.{List, [], ◌∷◌, ◌++◌, append_assoc}
use native.Mathlib.Omega.{arith}
use native.Mathlib.Nat.{le_of_eq}
use lib.Dec.{leb, eqb}
use lib.ListN.{length, take, drop, length-append, length-drop}
use lib.Seq.{take-append-le, drop-append-le, take_at, drop_at, drop-drop, take-add, take-take}
use borrow.Author.Tests.{leb-true, le-leb, lt-leb, eqb-true}
use Rattle.metafile.specs.Bytes.{part, ◌⊳◌, all, is_zero, non_zero}
use Rattle.metafile.specs.Fields.{is_count, count_value}
use Rattle.metafile.specs.Lines.{Kind, count, text, date, offset, serial, word, strategy, stamp, free, LLC, NUL, Field, fixed, value, field_fault, fixed_fault, count_fault, text_fault, date_fault, offset_fault, serial_fault, word_fault, stamp_fault, free_fault, width, kind_fault, field_width, fault, size, run, put, left, write, formed}
use Rattle.laws.proofs.First.{test, untrue, and_both, ⊳-left, ⊳-right, ⊳-both, ⊳-assoc, require-true}
use Rattle.laws.proofs.Lists.{same-eq, all_append, all_of, member-all}
use Rattle.laws.proofs.Zero.{text-clear, count-clear, date-clear, offset-clear, serial-clear}
use Rattle.laws.proofs.Dates.{date-good, serial-good}

-- ---- one field, n bytes wide

pub field-enough : (n : ℕ) (own : List ℕ → ℕ) (s : List ℕ) → field_fault n own s ≡ 0 → n ≤ length s
unfolding field_fault
field-enough n own s e =
    test (leb n (length s)) (λ q. leb-true n (length s) q) (λ q. let k = rw q at e in absurd (omega arith))

pub field-short : (n : ℕ) (own : List ℕ → ℕ) (s : List ℕ) → length s < n → field_fault n own s ≡ 4
unfolding field_fault
field-short n own s h = rw (lt-leb n (length s) h)

pub field-long : (n : ℕ) (own : List ℕ → ℕ) (s : List ℕ) → n ≤ length s → field_fault n own s ≡ own (take n s)
unfolding field_fault
field-long n own s h = rw (le-leb n (length s) h)

pub field-own : (n : ℕ) (own : List ℕ → ℕ) (s : List ℕ) → field_fault n own s ≡ 0 → own (take n s) ≡ 0
field-own n own s e = sym (field-long n own s (field-enough n own s e)) ∙ e

pub field-local : (n : ℕ) (own : List ℕ → ℕ) (s t : List ℕ) → n ≤ length s → field_fault n own (s ++ t) ≡ field_fault n own s
field-local n own s t h =
    field-long n own (s ++ t) (simp length-append (omega arith)) ∙ rw (take-append-le n s t h) (sym (field-long n own s h))

-- ---- one kind

pub kind-enough : (k : Kind) (s : List ℕ) → kind_fault k s ≡ 0 → width k ≤ length s
unfolding kind_fault width
kind-enough (count n most) s e = field-enough n (count_fault most) s e
kind-enough (text n) s e = field-enough n text_fault s e
kind-enough date s e = field-enough 8 date_fault s e
kind-enough offset s e = field-enough 16 offset_fault s e
kind-enough serial s e = field-enough 38 serial_fault s e
kind-enough (word ws) s e = field-enough 3 (word_fault ws) s e
kind-enough strategy s e =
    let a = field-enough 3 (word_fault (LLC ∷ NUL ∷ [])) s (⊳-left _ _ e) in
    let b = simp length-drop at (field-enough 3 (count_fault 999) (drop 3 s) (⊳-right _ _ e)) in
    omega arith
kind-enough (stamp frees serials) s e =
    let a = field-enough 3 (word_fault (frees ++ serials)) s (⊳-left _ _ e) in
    let b = simp length-drop at (field-enough 38 (stamp_fault serials (take 3 s)) (drop 3 s) (⊳-right _ _ e)) in
    omega arith
kind-enough (free n) s e = field-enough n free_fault s e

pub kind-local : (k : Kind) (s t : List ℕ) → width k ≤ length s → kind_fault k (s ++ t) ≡ kind_fault k s
unfolding kind_fault width
kind-local (count n most) s t h = field-local n (count_fault most) s t h
kind-local (text n) s t h = field-local n text_fault s t h
kind-local date s t h = field-local 8 date_fault s t h
kind-local offset s t h = field-local 16 offset_fault s t h
kind-local serial s t h = field-local 38 serial_fault s t h
kind-local (word ws) s t h = field-local 3 (word_fault ws) s t h
kind-local strategy s t h =
    let a : 3 ≤ length s = omega arith in
    let b : 3 ≤ length (drop 3 s) = simp length-drop (omega arith) in
    rw (field-local 3 (word_fault (LLC ∷ NUL ∷ [])) s t a, drop-append-le 3 s t a, field-local 3 (count_fault 999) (drop 3 s) t b)
kind-local (stamp frees serials) s t h =
    let a : 3 ≤ length s = omega arith in
    let b : 38 ≤ length (drop 3 s) = simp length-drop (omega arith) in
    rw (
      field-local 3 (word_fault (frees ++ serials)) s t a,
      take-append-le 3 s t a,
      drop-append-le 3 s t a,
      field-local 38 (stamp_fault serials (take 3 s)) (drop 3 s) t b,
    )
kind-local (free n) s t h = field-local n free_fault s t h

-- a kind, a field that refuses a zero byte
unfoldable pub strict_kind : Kind → Bool
strict_kind (count n most) = true
strict_kind (text n) = true
strict_kind date = true
strict_kind offset = true
strict_kind serial = true
strict_kind (word ws) = all_of (all non_zero) ws
strict_kind strategy = true
strict_kind (stamp frees serials) = false
strict_kind (free n) = false

unfoldable pub strict : Field → Bool
strict (fixed b) = all non_zero b
strict (value k) = strict_kind k

unfoldable pub all_strict : List Field → Bool
all_strict [] = true
all_strict (f ∷ fs) = strict f && all_strict fs

digits-clear : (n most : ℕ) (s : List ℕ) → field_fault n (count_fault most) s ≡ 0 → all non_zero (take n s) ≡ true
unfolding count_fault
digits-clear n most s e =
    let h = require-true _ 5 (field-own n (count_fault most) s e) in
    count-clear (take n s) (and_both (is_count (take n s)) (leb (count_value (take n s)) most) h).0

word-clear : (ws : List (List ℕ)) (s : List ℕ) → all_of (all non_zero) ws ≡ true → field_fault 3 (word_fault ws) s ≡ 0 → all non_zero (take 3 s) ≡ true
unfolding word_fault
word-clear ws s z e = member-all (all non_zero) (take 3 s) ws z (require-true _ 4 (field-own 3 (word_fault ws) s e))

pub kind-clear : (k : Kind) (s : List ℕ) → strict_kind k ≡ true → kind_fault k s ≡ 0 → all non_zero (take (width k) s) ≡ true
unfolding kind_fault width strict_kind text_fault offset_fault all_of all non_zero is_zero
kind-clear (count n most) s z e = digits-clear n most s e
kind-clear (text n) s z e = text-clear (take n s) (require-true _ 5 (field-own n text_fault s e))
kind-clear date s z e = date-clear (take 8 s) (date-good (take 8 s) (field-own 8 date_fault s e))
kind-clear offset s z e =
    rw (take-take 16 16 s (omega arith)) at (offset-clear (take 16 s) (require-true _ 5 (field-own 16 offset_fault s e)))
kind-clear serial s z e =
    rw (take-take 38 38 s (omega arith)) at (serial-clear (take 38 s) (serial-good (take 38 s) (field-own 38 serial_fault s e)))
kind-clear (word ws) s z e = word-clear ws s z e
kind-clear strategy s z e =
    rw (take-add 3 3 s)
    (all_append non_zero (take 3 s) (take 3 (drop 3 s)) (word-clear (LLC ∷ NUL ∷ []) s refl (⊳-left _ _ e)) (digits-clear 3 999 (drop 3 s) (⊳-right _ _ e)))
kind-clear (stamp frees serials) s z e = untrue z
kind-clear (free n) s z e = untrue z

-- ---- a field of a stretch

pub fault-enough : (f : Field) (s : List ℕ) → fault f s ≡ 0 → field_width f ≤ length s
unfolding fault field_width
fault-enough (fixed b) s e = field-enough (length b) (fixed_fault b) s e
fault-enough (value k) s e = kind-enough k s e

pub fault-local : (f : Field) (s t : List ℕ) → field_width f ≤ length s → fault f (s ++ t) ≡ fault f s
unfolding fault field_width
fault-local (fixed b) s t h = field-local (length b) (fixed_fault b) s t h
fault-local (value k) s t h = kind-local k s t h

-- a fixed text that passes is there
pub fixed-bytes : (b s : List ℕ) → fault (fixed b) s ≡ 0 → take (length b) s ≡ b
unfolding fault fixed_fault
fixed-bytes b s e = same-eq (take (length b) s) b (require-true _ 4 (field-own (length b) (fixed_fault b) s e))

pub fault-clear : (f : Field) (s : List ℕ) → strict f ≡ true → fault f s ≡ 0 → all non_zero (take (field_width f) s) ≡ true
unfolding field_width strict
fault-clear (fixed b) s z e = rw (fixed-bytes b s e) z
fault-clear (value k) s z e = kind-clear k s z (unfold fault in e)

-- ---- the reader's run

pub run-enough : (fs : List Field) (s : List ℕ) → run fs s ≡ 0 → size fs ≤ length s
unfolding run size
run-enough [] s e = omega arith
run-enough (f ∷ fs) s e =
    let a = fault-enough f s (⊳-left _ _ e) in
    let b = simp length-drop at (run-enough fs (drop (field_width f) s) (⊳-right _ _ e)) in
    omega arith

pub run-local : (fs : List Field) (s t : List ℕ) → size fs ≤ length s → run fs (s ++ t) ≡ run fs s
unfolding run size
run-local [] s t h = refl
run-local (f ∷ fs) s t h =
    let a : field_width f ≤ length s = omega arith in
    let b : size fs ≤ length (drop (field_width f) s) = simp length-drop (omega arith) in
    rw (fault-local f s t a, drop-append-le (field_width f) s t a, run-local fs (drop (field_width f) s) t b)

pub run-clear : (fs : List Field) (s : List ℕ) → all_strict fs ≡ true → run fs s ≡ 0 → all non_zero (take (size fs) s) ≡ true
unfolding run size all_strict all
run-clear [] s z e = refl
run-clear (f ∷ fs) s z e =
    let h = and_both (strict f) (all_strict fs) z in
    rw (take-add (field_width f) (size fs) s)
    (all_append non_zero (take (field_width f) s) (take (size fs) (drop (field_width f) s))
    (fault-clear f s h.0 (⊳-left _ _ e))
    (run-clear fs (drop (field_width f) s) h.1 (⊳-right _ _ e)))

pub run-split : (a b : List Field) (s : List ℕ) → run (a ++ b) s ≡ run a s ⊳ run b (drop (size a) s)
unfolding run size ◌⊳◌
run-split [] b s = refl
run-split (f ∷ a) b s =
    rw (run-split a b (drop (field_width f) s), drop-drop (size a) (field_width f) s, ⊳-assoc (fault f s))

-- the field that stands after a stretch
pub run_at : (a : List Field) (f : Field) (b : List Field) (s : List ℕ) → run (a ++ f ∷ b) s ≡ 0 → fault f (drop (size a) s) ≡ 0
unfolding run
run_at a f b s e = ⊳-left _ _ (⊳-right (run a s) _ (rw run-split at e))

pub size-split : (a b : List Field) → size (a ++ b) ≡ size a + size b
unfolding size
size-split [] b = omega arith
size-split (f ∷ a) b = omega (arith, size-split a b)

-- ---- the writer's run

-- values that fill their widths, and that the reader takes
module _ (f : Field) (fs : List Field) (vs : List (List ℕ)) (e : formed (f ∷ fs) vs ≡ true) where
  formed-parts : (length (put f vs) ≡ field_width f) × (fault f (put f vs) ≡ 0) × (formed fs (left f vs) ≡ true)
  unfolding formed
  formed-parts =
      let h = and_both (eqb (length (put f vs)) (field_width f) && eqb (fault f (put f vs)) 0) (formed fs (left f vs)) e in
      let k = and_both (eqb (length (put f vs)) (field_width f)) (eqb (fault f (put f vs)) 0) h.0 in
      (eqb-true _ _ k.0, eqb-true _ _ k.1, h.1)

pub formed-width : (f : Field) (fs : List Field) (vs : List (List ℕ)) → formed (f ∷ fs) vs ≡ true → length (put f vs) ≡ field_width f
formed-width f fs vs e = (formed-parts f fs vs e).0

pub formed-fault : (f : Field) (fs : List Field) (vs : List (List ℕ)) → formed (f ∷ fs) vs ≡ true → fault f (put f vs) ≡ 0
formed-fault f fs vs e = (formed-parts f fs vs e).1

pub formed-rest : (f : Field) (fs : List Field) (vs : List (List ℕ)) → formed (f ∷ fs) vs ≡ true → formed fs (left f vs) ≡ true
formed-rest f fs vs e = (formed-parts f fs vs e).2

pub write-size : (fs : List Field) (vs : List (List ℕ)) → formed fs vs ≡ true → length (write fs vs) ≡ size fs
unfolding write size
write-size [] vs e = refl
write-size (f ∷ fs) vs e =
    let a = formed-width f fs vs e in
    let b = write-size fs (left f vs) (formed-rest f fs vs e) in
    simp length-append (omega arith)

-- the round trip: what the writer puts, the reader passes
pub write-run : (fs : List Field) (vs : List (List ℕ)) (t : List ℕ) → formed fs vs ≡ true → run fs (write fs vs ++ t) ≡ 0
unfolding write run
write-run [] vs t e = refl
write-run (f ∷ fs) vs t e =
    let a = formed-width f fs vs e in
    let rest : List ℕ = write fs (left f vs) ++ t in
    rw (append_assoc (put f vs) (write fs (left f vs)) t)
    (⊳-both _ _
    (fault-local f (put f vs) rest (le_of_eq (sym a)) ∙ formed-fault f fs vs e)
    (rw (drop_at (put f vs) rest (field_width f) a) (write-run fs (left f vs) t (formed-rest f fs vs e))))

-- the values that a stretch leaves to the next
unfoldable pub lefts : List Field → List (List ℕ) → List (List ℕ)
lefts [] vs = vs
lefts (f ∷ fs) vs = lefts fs (left f vs)

pub write-split : (a b : List Field) (vs : List (List ℕ)) → write (a ++ b) vs ≡ write a vs ++ write b (lefts a vs)
unfolding write lefts
write-split [] b vs = refl
write-split (f ∷ a) b vs = rw (write-split a b (left f vs), append_assoc)

pub formed-split : (a b : List Field) (vs : List (List ℕ)) → formed (a ++ b) vs ≡ (formed a vs && formed b (lefts a vs))
unfolding formed lefts
formed-split [] b vs = refl
formed-split (f ∷ a) b vs =
    rw (formed-split a b (left f vs))
    (and_assoc (eqb (length (put f vs)) (field_width f) && eqb (fault f (put f vs)) 0) (formed a (left f vs)) (formed b (lefts a (left f vs))))
  where
    and_assoc : (x y z : Bool) → (x && (y && z)) ≡ ((x && y) && z)
    and_assoc true y z = refl
    and_assoc false y z = refl

-- the value at its distance
pub write-at : (a : List Field) (f : Field) (b : List Field) (vs : List (List ℕ)) (t : List ℕ) (p w : ℕ) → size a ≡ p → field_width f ≡ w
    → formed (a ++ f ∷ b) vs ≡ true → part p w (write (a ++ f ∷ b) vs ++ t) ≡ put f (lefts a vs)
unfolding write
write-at a f b vs t p w ep ew e =
    let h = and_both (formed a vs) (formed (f ∷ b) (lefts a vs)) (sym (formed-split a (f ∷ b) vs) ∙ e) in
    let la : length (write a vs) ≡ p = write-size a vs h.0 ∙ ep in
    let lf : length (put f (lefts a vs)) ≡ w = formed-width f b (lefts a vs) h.1 ∙ ew in
    rw (write-split a (f ∷ b) vs, append_assoc (write a vs), drop_at (write a vs) _ p la, append_assoc (put f (lefts a vs)))
    (take_at (put f (lefts a vs)) _ w lf)
