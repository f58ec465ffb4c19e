-- What the writer's runs need of the definitions: values one behind the other, bytes put behind bytes, digits, closing.
--     value_room value-next     the value of the next line, and the others
--     formed-bad formed-good    the values judged, one line on
--     placed-next placed-byte copied   bytes put behind bytes
--     line-put lines-put ..     a line and the lines behind it put
--     last-put digit-put        the last byte, or digit, put before the others
--     closing-..                the closing put piece by piece
-- Assumes nothing.
use Prim.Native.Nat.{ℕ, zero, suc, ◌+◌, ◌-◌, ◌/◌, ◌%◌, ◌≤◌, ◌<◌}
use mathlib.Core.Bool.{true, false, ◌&&◌}
use mathlib.Core.Path.{◌≡◌, refl, sym, ap, ◌∙◌}
use mathlib.Core.List.{List, [], ◌∷◌, ◌++◌, append_assoc, append-nil}
use native.Mathlib.Omega.{arith}
use borrow.Rule.Slice.PartMut.{put_mid}
use native.Mathlib.Nat.{le_of_eq}
use lib.Dec.{eqb}
use lib.ListN.{length, take, drop, set, length-append, length-take, length-drop, take-append-drop}
use lib.Seq.{length-take-le, drop_at, drop-drop, drop-append-le, take-append-add, take-append_seam, take-set-le, set_split}
use borrow.Author.Tests.{eq-eqb, ne_eqb}
use Rattle.metafile.specs.Bytes.{part, sum}
use Rattle.metafile.specs.Fields.{digits_of}
use Rattle.metafile.specs.Lines.{Kind, Field, fixed, value, Line, lf, opened, lines_of, width, field_width, kind_fault, fault, size, first_of, others_of, put, left, write, formed, checksum, table}
use Rattle.metafile.specs.Closing.{integrity_lines, summed, unsummed}
use Rattle.metafile.specs.Answers.{placed}
use Rattle.table.specs.Codes.{line_no, lines_from}
use Rattle.laws.proofs.Lists.{drop-take}
use Rattle.laws.proofs.Digits.{length-digits_of}
use Rattle.laws.proofs.Table.{kind-local, size-split, write-split, lefts}
use Rattle.laws.proofs.Loops.{placed-length, placed-placed, placed-nothing, put-more}
use Rattle.laws.proofs.Closed.{fixed-formed}
use Rattle.laws.proofs.Distances.{lines}
use Rattle.table.proofs.Labels.{copied as copied-long}
use Rattle.lines.specs.Values.{chopped, values_size, closing_for}
use Rattle.lines.proofs.Runs.{lines-first, lines_none, lines_of-cons}

-- ---- the values of lines

value-formed : (k : Kind) (fs : List Field) (x : List ℕ) (xs : List (List ℕ)) → formed (value k ∷ fs) (x ∷ xs) ≡ (eqb (length x) (width k) && eqb (kind_fault k x) 0 && formed fs xs)
unfolding formed put left first_of others_of field_width fault
value-formed k fs x xs = refl

line-formed : (l : Line) (ls : List Line) (x : List ℕ) (xs : List (List ℕ)) → formed (lines_of (l ∷ ls)) (x ∷ xs) ≡ (eqb (length x) (width l.kind) && eqb (kind_fault l.kind x) 0 && formed (lines_of ls) xs)
unfolding lines_of opened lf
line-formed l ls x xs =
    fixed-formed l.label (value l.kind ∷ fixed (10 ∷ []) ∷ lines_of ls) (x ∷ xs)
    ∙ value-formed l.kind (fixed (10 ∷ []) ∷ lines_of ls) x xs
    ∙ rw (fixed-formed (10 ∷ []) (lines_of ls) xs)

-- the first value is judged where it stands
values-judged : (l : Line) (ls : List Line) (v : List ℕ) → width l.kind ≤ length v
    → formed (lines_of (l ∷ ls)) (chopped (l ∷ ls) v) ≡ (eqb (kind_fault l.kind v) 0 && formed (lines_of ls) (chopped ls (drop (width l.kind) v)))
unfolding chopped
values-judged l ls v h =
    let w : ℕ = width l.kind in
    let long : length (take w v) ≡ w = length-take-le w v h in
    let same : kind_fault l.kind (take w v) ≡ kind_fault l.kind v =
    sym (kind-local l.kind (take w v) (drop w v) (le_of_eq (sym long))) ∙ rw (take-append-drop w v) in
    line-formed l ls (take w v) (chopped ls (drop w v)) ∙ rw (eq-eqb (length (take w v)) w long, same)

module _ (values : List ℕ) (v i end : ℕ) (h : i < end) (l : end ≤ 24) (long : length values ≡ v + values_size (lines_from i (end - i))) where
  others : List Line
  others = lines_from (i + 1) (end - (i + 1))

  here : lines_from i (end - i) ≡ line_no i ∷ others
  unfolding others
  here = lines-first i end h l

  sizes : length values ≡ v + (width (line_no i).kind + values_size others)
  unfolding values_size
  sizes = rw here at long

  pub value_room : v + width (line_no i).kind ≤ length values
  value_room = omega (arith, sizes)

  pub value-next : (p : ℕ) → p ≡ v + width (line_no i).kind → length values ≡ p + values_size (lines_from (i + 1) (end - (i + 1)))
  unfolding others
  value-next p e = omega (arith, sizes)

  rest-formed : formed (lines_of (lines_from i (end - i))) (chopped (lines_from i (end - i)) (drop v values)) ≡ (eqb (kind_fault (line_no i).kind (drop v values)) 0 && formed (lines_of others) (chopped others (drop (v + width (line_no i).kind) values)))
  rest-formed =
      rw here
      (values-judged (line_no i) others (drop v values) (simp length-drop (omega (arith, sizes))) ∙ rw (drop-drop (width (line_no i).kind) v values))

  module _ (r : ℕ) (e : r ≡ kind_fault (line_no i).kind (drop v values)) where
    pub formed-bad : (r ≡ 0 → ⊥) → false ≡ formed (lines_of (lines_from i (end - i))) (chopped (lines_from i (end - i)) (drop v values))
    formed-bad n = sym (rest-formed ∙ rw (← e, ne_eqb r 0 n))

    pub formed-good : (p : ℕ) → r ≡ 0 → p ≡ v + width (line_no i).kind
        → formed (lines_of (lines_from i (end - i))) (chopped (lines_from i (end - i)) (drop v values)) ≡ formed (lines_of (lines_from (i + 1) (end - (i + 1)))) (chopped (lines_from (i + 1) (end - (i + 1))) (drop p values))
    unfolding others
    formed-good p z q = rest-formed ∙ rw (← e, eq-eqb r 0 z, ← q)

pub formed-end : (values : List ℕ) (i end : ℕ) → end ≤ i → true ≡ formed (lines_of (lines_from i (end - i))) (chopped (lines_from i (end - i)) values)
unfolding formed lines_of
formed-end values i end h = rw (lines_none i end h)

-- ---- bytes put behind bytes

pub placed-next : (at p : ℕ) (v w b c d : List ℕ) → c ≡ placed at v b → p ≡ at + length v → p + length w ≤ length b → d ≡ placed p w c → d ≡ placed at (v ++ w) b
placed-next at p v w b c d e q h f = f ∙ rw (e, q) (placed-placed at v w b (omega arith))

pub placed-byte : (q x : ℕ) (c : List ℕ) → q < length c → set c q x ≡ placed q (x ∷ []) c
placed-byte q x c h =
    let z : q + 0 ≡ q = omega arith in
    let more = put-more q 0 (x ∷ []) c (omega arith) (omega arith) in
    rw (placed-nothing q c, z) at more

-- bytes copied into the part of a buffer that starts at a place and is as long
pub copied : (at : ℕ) (s b ys : List ℕ) → ys ≡ s → put_mid at (at + length s - at) b ys ≡ placed at s b
copied at s b ys e = copied-long at (length s) s b ys refl e

-- ---- a line, and the lines behind it

pub line-bytes : (l : Line) (x : List ℕ) → write (lines_of (l ∷ [])) (x ∷ []) ≡ l.label ++ (x ++ (10 ∷ []))
unfolding write lines_of opened lf put left first_of others_of
line-bytes l x = refl

pub line-size-is : (l : Line) → size (lines_of (l ∷ [])) ≡ length l.label + width l.kind + 1
unfolding size lines_of opened lf field_width
line-size-is l = omega arith

line-length : (l : Line) (x : List ℕ) → length x ≡ width l.kind → length (write (lines_of (l ∷ [])) (x ∷ [])) ≡ size (lines_of (l ∷ []))
line-length l x e = rw (line-bytes l x, line-size-is l) (simp length-append (omega arith))

-- a value as the code takes it out of the values
pub value_taken : (values : List ℕ) (v w k : ℕ) → w ≡ k → take (v + w - v) (drop v values) ≡ part v k values
value_taken values v w k e =
    let n : v + w - v ≡ k = omega arith in
    rw n

pub value-length : (values : List ℕ) (v w k : ℕ) → w ≡ k → v + k ≤ length values → length (take (v + w - v) (drop v values)) ≡ k
value-length values v w k e h = rw (value_taken values v w k e) (length-take-le k (drop v values) (simp length-drop (omega arith)))

-- label, value and LF put one behind the other
module _ (l : Line) (b c d x : List ℕ) (at p q : ℕ) (room : at + size (lines_of (l ∷ [])) ≤ length b) (wide : length x ≡ width l.kind) (ep : p ≡ at + length l.label) (eq : q ≡ p + length x) where
  pub line-end : q + 1 ≡ at + size (lines_of (l ∷ []))
  line-end = omega (arith, line-size-is l)

  pub line-put : c ≡ placed at l.label b → d ≡ placed p x c → set d q 10 ≡ placed at (write (lines_of (l ∷ [])) (x ∷ [])) b
  line-put ec ed =
      let fits : at + length (l.label ++ x) < length b = simp length-append (omega (arith, line-size-is l)) in
      let two : d ≡ placed at (l.label ++ x) b = placed-next at p l.label x b c d ec ep (omega (arith, line-size-is l)) ed in
      let long : length d ≡ length b = rw two (placed-length at (l.label ++ x) b (omega arith)) in
      let place : q ≡ at + length (l.label ++ x) = simp length-append (omega arith) in
      placed-next at q (l.label ++ x) (10 ∷ []) b d (set d q 10) two place (omega arith) (placed-byte q 10 d (omega arith)) ∙ rw (line-bytes l x) (simp append_assoc)

write-cons : (l : Line) (ls : List Line) (x : List ℕ) (xs : List (List ℕ)) → write (lines_of (l ∷ ls)) (x ∷ xs) ≡ write (lines_of (l ∷ [])) (x ∷ []) ++ write (lines_of ls) xs
unfolding write lines_of opened lf put left first_of others_of
write-cons l ls x xs = simp append_assoc

size-cons : (l : Line) (ls : List Line) → size (lines_of (l ∷ ls)) ≡ size (lines_of (l ∷ [])) + size (lines_of ls)
size-cons l ls = rw (lines_of-cons l ls) (size-split (lines_of (l ∷ [])) (lines_of ls))

lines-length : (ls : List Line) (v : List ℕ) → length v ≡ values_size ls → length (write (lines_of ls) (chopped ls v)) ≡ size (lines_of ls)
unfolding values_size chopped
lines-length [] v e = unfold write size lines_of in refl
lines-length (l ∷ ls) v e =
    let w : ℕ = width l.kind in
    let first : length (take w v) ≡ w = length-take-le w v (omega arith) in
    let rest : length (drop w v) ≡ values_size ls = simp length-drop (omega arith) in
    rw (write-cons l ls (take w v) (chopped ls (drop w v)), size-cons l ls)
    (simp length-append (omega (arith, line-length l (take w v) first, lines-length ls (drop w v) rest)))

put-cons : (l : Line) (ls : List Line) (v b : List ℕ) (p : ℕ) → length v ≡ values_size (l ∷ ls) → p + size (lines_of (l ∷ ls)) ≤ length b
    → placed p (write (lines_of (l ∷ ls)) (chopped (l ∷ ls) v)) b
    ≡ placed (p + size (lines_of (l ∷ []))) (write (lines_of ls) (chopped ls (drop (width l.kind) v))) (placed p (write (lines_of (l ∷ [])) (take (width l.kind) v ∷ [])) b)
unfolding values_size chopped
put-cons l ls v b p e h =
    let w : ℕ = width l.kind in
    let first : length (take w v) ≡ w = length-take-le w v (omega arith) in
    let rest : length (drop w v) ≡ values_size ls = simp length-drop (omega arith) in
    let long = line-length l (take w v) first in
    let fits = lines-length ls (drop w v) rest in
    rw (write-cons l ls (take w v) (chopped ls (drop w v)), ← long)
    (sym (placed-placed p (write (lines_of (l ∷ [])) (take w v ∷ [])) (write (lines_of ls) (chopped ls (drop w v))) b (omega (arith, size-cons l ls))))

module _ (values b : List ℕ) (p v i end : ℕ) (h : i < end) (l : end ≤ 24) (long : length values ≡ v + values_size (lines_from i (end - i))) (room : p + size (lines_of (lines_from i (end - i))) ≤ length b) where
  behind : List Line
  behind = lines_from (i + 1) (end - (i + 1))

  now' : lines_from i (end - i) ≡ line_no i ∷ behind
  unfolding behind
  now' = lines-first i end h l

  pub size-next : size (lines_of (lines_from i (end - i))) ≡ size (lines_of (line_no i ∷ [])) + size (lines_of (lines_from (i + 1) (end - (i + 1))))
  unfolding behind
  size-next = rw now' (size-cons (line_no i) behind)

  pub put_next : (q w : ℕ) (c : List ℕ) → q ≡ p + size (lines_of (line_no i ∷ [])) → w ≡ width (line_no i).kind → c ≡ placed p (write (lines_of (line_no i ∷ [])) (part v (width (line_no i).kind) values ∷ [])) b
      → placed p (write (lines_of (lines_from i (end - i))) (chopped (lines_from i (end - i)) (drop v values))) b
      ≡ placed q (write (lines_of (lines_from (i + 1) (end - (i + 1)))) (chopped (lines_from (i + 1) (end - (i + 1))) (drop (v + w) values))) c
  unfolding behind
  put_next q w c eq ew ec =
      let size : length (drop v values) ≡ values_size (line_no i ∷ behind) = rw (← now') (simp length-drop (omega arith)) in
      rw (now', eq, ew, ec, ← drop-drop (width (line_no i).kind) v values) (put-cons (line_no i) behind (drop v values) b p size (rw now' at room))

pub put-end : (values b : List ℕ) (p i end : ℕ) → end ≤ i → placed p (write (lines_of (lines_from i (end - i))) (chopped (lines_from i (end - i)) values)) b ≡ b
unfolding write lines_of
put-end values b p i end h = rw (lines_none i end h) (placed-nothing p b)

pub size-end : (i end : ℕ) → end ≤ i → size (lines_of (lines_from i (end - i))) ≡ 0
unfolding size lines_of
size-end i end h = rw (lines_none i end h)

-- ---- digits, the last one first

pub last-put : (p k d : ℕ) (v b : List ℕ) → length v ≡ k → p + k < length b → placed p (v ++ (d ∷ [])) b ≡ placed p v (set b (p + k) d)
unfolding placed
last-put p k d v b long h =
    let all : length (v ++ (d ∷ [])) ≡ k + 1 = simp length-append (omega arith) in
    let place : p + (k + 1) ≡ suc (p + k) = omega arith in
    rw (all, place, long, take-set-le p b (p + k) d (omega arith), set_split b (p + k) d h, drop_at (take (p + k) b) (d ∷ drop (suc (p + k)) b) (p + k) (length-take-le (p + k) b (omega arith)))
    (simp append_assoc)

pub digit-put : (p k x : ℕ) (b : List ℕ) → 0 < k → p + k ≤ length b → placed p (digits_of k x) b ≡ placed p (digits_of (k - 1) (x / 10)) (set b (p + (k - 1)) (48 + x % 10))
unfolding digits_of
digit-put p zero x b z h = absurd (omega arith)
digit-put p (suc k) x b z h =
    let one : suc k - 1 ≡ k = omega arith in
    rw one (last-put p k (48 + x % 10) (digits_of k (x / 10)) b (length-digits_of k (x / 10)) (omega arith))

pub digits-none : (p k x : ℕ) (b : List ℕ) → k ≡ 0 → placed p (digits_of k x) b ≡ b
unfolding digits_of
digits-none p k x b e = rw e (placed-nothing p b)

-- ---- the closing

-- the lines of the code's closing
integrity-is : lines_from 16 5 ≡ integrity_lines
unfolding lines_from integrity_lines table
integrity-is = refl

checksum-is : line_no 21 ≡ checksum
unfolding line_no table
checksum-is = refl

pub integrity-size : size (lines_of (lines_from 16 5)) ≡ 225
unfolding lines
integrity-size = rw integrity-is

pub integrity-values : values_size (lines_from 16 5) ≡ 118
unfolding lines values_size
integrity-values = rw integrity-is

pub checksum-label : length (line_no 21).label ≡ 25
unfolding lines
checksum-label = rw checksum-is

-- the bytes that a sum covers: those before what was put, and what was put
placed-part : (from at : ℕ) (v b : List ℕ) → from ≤ at → at ≤ length b → take (at + length v - from) (drop from (placed at v b)) ≡ part from (at - from) b ++ v
unfolding placed
placed-part from at v b h l =
    let n : at ≡ from + (at - from) = omega arith in
    let cut : drop from (take at b) ≡ part from (at - from) b = ap (λ (k : ℕ). drop from (take k b)) n ∙ drop-take from (at - from) b in
    let long : length (part from (at - from) b) ≡ at - from = length-take-le (at - from) (drop from b) (simp length-drop (omega arith)) in
    let count : at + length v - from ≡ length (part from (at - from) b) + length v = omega arith in
    rw (drop-append-le from (take at b) (v ++ drop (at + length v) b) (simp length-take (omega arith)), cut, count, take-append-add (part from (at - from) b) (v ++ drop (at + length v) b) (length v), take-append_seam v (drop (at + length v) b))

write-fixed : (b : List ℕ) (fs : List Field) (vs : List (List ℕ)) → write (fixed b ∷ fs) vs ≡ b ++ write fs vs
unfolding write put left
write-fixed b fs vs = refl

summed-is : (m : List ℕ) (vs : List (List ℕ)) → write (summed m) vs ≡ m ++ (write (lines_of integrity_lines) vs ++ checksum.label)
unfolding summed
summed-is m vs =
    rw (write-fixed m (lines_of integrity_lines ++ fixed checksum.label ∷ []) vs, write-split (lines_of integrity_lines) (fixed checksum.label ∷ []) vs, write-fixed checksum.label [] (lefts (lines_of integrity_lines) vs))
    (unfold write in rw append-nil)

unsummed-is : (m x : List ℕ) → write (unsummed m) (x ∷ []) ≡ x ++ ((10 ∷ []) ++ m)
unfolding unsummed lf write put left first_of others_of
unsummed-is m x = rw append-nil

module _ (m values b : List ℕ) (from at : ℕ) (h : from ≤ at) (room : at + length m + 254 + length m ≤ length b) (long : length values ≡ 118)
    (c₁ c₂ c₃ : List ℕ) (p₁ p₂ p₃ : ℕ)
    (e₁ : c₁ ≡ placed at m b) (q₁ : p₁ ≡ at + length m)
    (e₂ : c₂ ≡ placed p₁ (write (lines_of (lines_from 16 5)) (chopped (lines_from 16 5) values)) c₁) (q₂ : p₂ ≡ p₁ + size (lines_of (lines_from 16 5)))
    (e₃ : c₃ ≡ placed p₂ (line_no 21).label c₂) (q₃ : p₃ ≡ p₂ + length (line_no 21).label)
  where
    summed_part : List ℕ
    summed_part = write (summed m) (chopped integrity_lines values)

    body : List ℕ
    body = write (lines_of (lines_from 16 5)) (chopped (lines_from 16 5) values)

    body-long : length body ≡ 225
    unfolding body
    body-long = lines-length (lines_from 16 5) values (long ∙ sym integrity-values) ∙ integrity-size

    parts : summed_part ≡ m ++ body ++ (line_no 21).label
    unfolding summed_part body
    parts = rw (summed-is m (chopped integrity_lines values), integrity-is, checksum-is) (simp append_assoc)

    summed-long : length summed_part ≡ length m + 250
    summed-long = rw parts (simp length-append (omega (arith, body-long, checksum-label)))

    summed-put : c₃ ≡ placed at summed_part b
    unfolding body
    summed-put =
        let two : c₂ ≡ placed at (m ++ body) b = placed-next at p₁ m body b c₁ c₂ e₁ q₁ (omega (arith, body-long)) e₂ in
        let place : p₂ ≡ at + length (m ++ body) = simp length-append (omega (arith, body-long, integrity-size)) in
        placed-next at p₂ (m ++ body) (line_no 21).label b c₂ c₃ two place (omega (arith, integrity-size, checksum-label)) e₃ ∙ rw parts

    place₃ : p₃ ≡ at + length summed_part
    place₃ = omega (arith, summed-long, integrity-size, checksum-label)

    pub closing-place : p₃ ≡ at + length m + 250
    closing-place = omega (arith, integrity-size, checksum-label)

    pub closing-put : (x p₄ : ℕ) (c₄ c₅ : List ℕ) → x ≡ sum (take (p₃ - from) (drop from c₃)) → c₄ ≡ placed p₃ (digits_of 3 x) c₃ → p₄ ≡ p₃ + 3 → c₅ ≡ placed (p₄ + 1) m (set c₄ p₄ 10)
        → c₅ ≡ placed at (closing_for m (chopped integrity_lines values) (part from (at - from) b)) b
    unfolding closing_for summed_part
    closing-put x p₄ c₄ c₅ ex e₄ q₄ e₅ =
        let d : List ℕ = digits_of 3 x in
        let wide : length d ≡ 3 = length-digits_of 3 x in
        let all : length (summed_part ++ d) ≡ length m + 253 = simp length-append (omega (arith, summed-long)) in
        let four : c₄ ≡ placed at (summed_part ++ d) b = placed-next at p₃ summed_part d b c₃ c₄ summed-put place₃ (omega (arith, closing-place)) e₄ in
        let size : length c₄ ≡ length b = rw four (placed-length at (summed_part ++ d) b (omega arith)) in
        let five : set c₄ p₄ 10 ≡ placed at (summed_part ++ d ++ (10 ∷ [])) b =
        placed-next at p₄ (summed_part ++ d) (10 ∷ []) b c₄ (set c₄ p₄ 10) four (omega (arith, closing-place)) (omega (arith, closing-place)) (placed-byte p₄ 10 c₄ (omega (arith, closing-place))) in
        let end : p₄ + 1 ≡ at + length (summed_part ++ d ++ (10 ∷ [])) = simp length-append (omega (arith, closing-place, summed-long)) in
        let six : c₅ ≡ placed at (summed_part ++ d ++ (10 ∷ []) ++ m) b = placed-next at (p₄ + 1) (summed_part ++ d ++ (10 ∷ [])) m b (set c₄ p₄ 10) c₅ five end (omega (arith, closing-place)) e₅ in
        let covered : x ≡ sum (part from (at - from) b ++ summed_part) = ex ∙ rw (summed-put, place₃) (ap sum (placed-part from at summed_part b h (omega arith))) in
        six ∙ rw (unsummed-is m (digits_of 3 (sum (part from (at - from) b ++ summed_part))), ← covered) (simp append_assoc)
