-- What the reader's runs need of the definitions: a stretch of fields in two parts, a line's fields, lines of the table.
--     lf-.. mark-judged               LF and mark
--     taken-.. field-..               a field read; the fields of a line by number
--     opened-size line-size ..        the bytes of a line
--     takes-..                        a stretch read in two parts: the first has a fault; it has none
--     opened-.. line-.. lines-..      the same of a line up to its LF, of a line, of lines of the table
-- Assumes nothing.
use Prim.Native.Nat.{ℕ, suc, ◌+◌, ◌-◌, ◌≤◌, ◌<◌}
use mathlib.Core.Bool.{Bool}
use mathlib.Core.Path.{◌≡◌, refl, sym, ap, ◌∙◌}
use mathlib.Core.List.{List, [], ◌∷◌, ◌++◌}
use native.Mathlib.Omega.{arith}
use native.Mathlib.Numerals.{add-one}
use lib.ListN.{length, take, drop, get_or, length-drop}
use lib.Seq.{drop-drop, drop-cons, take-suc, get_or-drop}
use Rattle.metafile.specs.Bytes.{require, starts}
use Rattle.metafile.specs.Lines.{Field, fixed, value, Line, lf, opened, lines_of, width, field_width, fixed_fault, kind_fault, fault, size, run, checksum, table}
use Rattle.table.specs.declared.Line.{Line as CodeLine}
use Rattle.table.specs.Codes.{line_no, code_no, lines_from}
use Rattle.table.proofs.Lines.{label-fits, label-long, width_is, width_small}
use Rattle.laws.proofs.First.{⊳-stop, ⊳-go}
use Rattle.laws.proofs.Stages.{run-one as run-field}
use Rattle.laws.proofs.Table.{field-long, run-split, run-enough, size-split}
use Rattle.laws.proofs.Loops.{fixed-short, fixed-bad, fixed-good, part-drop}
use Rattle.std.specs.declared.result.Result.{Result}
use Rattle.std.specs.declared.result.Result.TheVariants.{Ok, Err}
use Rattle.metafile.specs.declared.refusal.Refusal.{Refusal}
use Rattle.metafile.specs.declared.refusal.Refusal.TheVariants.{Title, Tape, MiniMark, Short, Differs, Form, Length, ShortId, KnownSerial, RowsFull, OverLimit, NotClean, NoRow, NoDependency, ZeroInMark, Open, Multichunk, NoRoom, NotRelations, Heading, Total, Circle, RowsOver64, BlockSum, BlockNumber, BlockUse}
use Rattle.metafile.specs.Refusals.{number_of}
use Rattle.lines.specs.declared.reader.Refused.{Refused}
use Rattle.lines.specs.Parts.{field_no, fault_taken, behind_taken, Takes}

-- ---- LF and mark

module _ (s : List ℕ) (at : ℕ) where
  pub lf-short : length s ≤ at → 4 ≡ fault lf (drop at s)
  unfolding lf
  lf-short h = fixed-short (10 ∷ []) (drop at s) (simp length-drop (omega arith))

  module _ (h : at < length s) where
    room : 1 ≤ length (drop at s)
    room = simp length-drop (omega arith)

    first : get_or (drop at s) 0 0 ≡ get_or s at 0
    first =
        let z : at + 0 ≡ at = omega arith in
        rw (get_or-drop at s 0 0, z)

    pub lf-bad : (get_or s at 0 ≡ 10 → ⊥) → 5 ≡ fault lf (drop at s)
    unfolding lf
    lf-bad n = fixed-bad (10 ∷ []) (drop at s) 0 room (omega arith) (λ e. n (sym first ∙ e))

    pub lf-good : get_or s at 0 ≡ 10 → 0 ≡ fault lf (drop at s)
    unfolding lf
    lf-good e = fixed-good (10 ∷ []) (drop at s) room (rw (take-suc (drop at s) 0 0 room, first, e))

pub mark-short : (m s : List ℕ) (at : ℕ) → length s - at < length m → 4 ≡ fault (fixed m) (drop at s)
mark-short m s at h = fixed-short m (drop at s) (simp length-drop h)

pub mark-judged : (m s : List ℕ) (at r : ℕ) (b : Bool) → length m ≤ length s - at → r ≡ require b 5 → b ≡ starts m (take (length s - at) (drop at s))
    → r ≡ fault (fixed m) (drop at s)
unfolding fault fixed_fault starts
mark-judged m s at r b h e q =
    e ∙ rw (q, part-drop s at) (sym (field-long (length m) (fixed_fault m) (drop at s) (simp length-drop h)))

-- ---- fields read

pub run-one : (f : Field) (x : List ℕ) → fault f x ≡ run (f ∷ []) x
run-one f x = sym (run-field f x)

pub size-one : (f : Field) → size (f ∷ []) ≡ field_width f
unfolding size
size-one f = omega arith

pub taken-fault : (f : Field) (at : ℕ) (s : List ℕ) (r : Result ℕ Refused) → Takes (f ∷ []) at s r → fault_taken r ≡ fault f (drop at s)
taken-fault f at s r e = e.first ∙ sym (run-one f (drop at s))

-- one field, refused or not
pub taken-one : (f : Field) (at : ℕ) (s : List ℕ) (r : Result ℕ Refused) → fault_taken r ≡ fault f (drop at s) → behind_taken r ≡ at + field_width f → Takes (f ∷ []) at s r
taken-one f at s r e w = record { first = e ∙ run-one f (drop at s); behind = omega (arith, size-one f) }

-- a refusal has a number
pub refused : (x : Refusal) → number_of x ≡ 0 → ⊥
refused Title e = absurd (omega (arith, e))
refused Tape e = absurd (omega (arith, e))
refused MiniMark e = absurd (omega (arith, e))
refused Short e = absurd (omega (arith, e))
refused Differs e = absurd (omega (arith, e))
refused Form e = absurd (omega (arith, e))
refused Length e = absurd (omega (arith, e))
refused ShortId e = absurd (omega (arith, e))
refused KnownSerial e = absurd (omega (arith, e))
refused RowsFull e = absurd (omega (arith, e))
refused OverLimit e = absurd (omega (arith, e))
refused NotClean e = absurd (omega (arith, e))
refused NoRow e = absurd (omega (arith, e))
refused NoDependency e = absurd (omega (arith, e))
refused ZeroInMark e = absurd (omega (arith, e))
refused Open e = absurd (omega (arith, e))
refused Multichunk e = absurd (omega (arith, e))
refused NoRoom e = absurd (omega (arith, e))
refused NotRelations e = absurd (omega (arith, e))
refused Heading e = absurd (omega (arith, e))
refused Total e = absurd (omega (arith, e))
refused Circle e = absurd (omega (arith, e))
refused RowsOver64 e = absurd (omega (arith, e))
refused BlockSum e = absurd (omega (arith, e))
refused BlockNumber e = absurd (omega (arith, e))
refused BlockUse e = absurd (omega (arith, e))

-- ---- the fields of a line

pub field-label : (i : ℕ) → field_no i 0 ≡ fixed (line_no i).label
unfolding field_no opened
field-label i = refl

pub field-value : (i : ℕ) → field_no i 1 ≡ value (line_no i).kind
unfolding field_no opened
field-value i = refl

pub field_end : (i : ℕ) → field_no i 2 ≡ lf
unfolding field_no opened
field_end i = refl

pub value-fault : (i at : ℕ) (s : List ℕ) (r : Result ℕ Refused) → Takes (field_no i 1 ∷ []) at s r → fault_taken r ≡ kind_fault (line_no i).kind (drop at s)
unfolding field_no opened fault
value-fault i at s r e = taken-fault (field_no i 1) at s r e

pub value-wide : (i : ℕ) → size (field_no i 1 ∷ []) ≡ width (line_no i).kind
unfolding field_no opened size field_width
value-wide i = omega arith

-- a field of line i, as the code reads it
module _ (i p at : ℕ) (s : List ℕ) (r : Result ℕ Refused) where
  pub label-taken : p ≡ 0 → fault_taken r ≡ fault (fixed (line_no i).label) (drop at s) → behind_taken r ≡ at + length (line_no i).label → Takes (field_no i p ∷ []) at s r
  unfolding field_width
  label-taken e f w = rw (e, field-label i) (taken-one (fixed (line_no i).label) at s r f w)

  pub value_taken : p ≡ 1 → fault_taken r ≡ kind_fault (line_no i).kind (drop at s) → behind_taken r ≡ at + width (line_no i).kind → Takes (field_no i p ∷ []) at s r
  unfolding field_width fault
  value_taken e f w = rw (e, field-value i) (taken-one (value (line_no i).kind) at s r f w)

  pub end-taken : (p ≡ 0 → ⊥) → (p ≡ 1 → ⊥) → p < 3 → fault_taken r ≡ fault lf (drop at s) → behind_taken r ≡ at + 1 → Takes (field_no i p ∷ []) at s r
  unfolding field_width lf
  end-taken a b h f w =
      let e : p ≡ 2 = omega arith in
      rw (e, field_end i) (taken-one lf at s r f w)

-- ---- the bytes of a line

module _ (i : ℕ) (h : i < 24) where
  pub opened-small : size (opened (line_no i)) ≤ 768
  unfolding size opened field_width
  opened-small = omega (arith, label-fits i h, label-long i h, width_is i h, width_small i h)

  pub line-size : size (lines_of (line_no i ∷ [])) ≡ size (opened (line_no i)) + 1
  unfolding size lines_of opened lf field_width
  line-size = omega arith

  module _ (line : CodeLine) (is : line ≡ code_no i) where
    pub opened-size : line.long + line.width ≡ size (opened (line_no i))
    unfolding size opened field_width
    opened-size = rw is (omega (arith, label-long i h, width_is i h))

    pub long-is : line.long ≡ length (line_no i).label
    long-is = rw is (sym (label-long i h))

    pub wide_is : line.width ≡ width (line_no i).kind
    wide_is = rw is (sym (width_is i h))

-- ---- a stretch in two parts

module _ (a b : List Field) (s : List ℕ) (at : ℕ) where
  -- the first part is refused; the position answered is that behind both
  pub takes-stop : (x : Refused) → Takes a at s (Err x) → number_of x.refusal ≡ run (a ++ b) (drop at s)
  takes-stop x e = rw (run-split a b (drop at s), ← e.first) (sym (⊳-stop (number_of x.refusal) _ (refused x.refusal)))

  pub takes_first : (x y : Refused) → Takes a at s (Err x) → y.refusal ≡ x.refusal → y.behind ≡ at + size (a ++ b) → Takes (a ++ b) at s (Err y)
  takes_first x y e f w = record { first = ap number_of f ∙ takes-stop x e; behind = w }

  module _ (p : ℕ) (e : Takes a at s (Ok p)) where
    pub takes-fits : at ≤ length s → p ≤ length s
    takes-fits h =
        let k = simp length-drop at (run-enough a (drop at s) (sym e.first)) in
        omega (arith, e.behind)

    pub takes-go : run b (drop p s) ≡ run (a ++ b) (drop at s)
    takes-go = rw (run-split a b (drop at s), ← e.first, ⊳-go 0 _ refl, drop-drop (size a) at s, ← e.behind)

    -- the second part is read behind the first
    pub takes-both : (q : Result ℕ Refused) → Takes b p s q → Takes (a ++ b) at s q
    takes-both q f = record { first = f.first ∙ takes-go; behind = omega (arith, e.behind, f.behind, size-split a b) }

-- ---- a line

module _ (i : ℕ) (s : List ℕ) (at : ℕ) where
  pub opened-first : (x y : Refused) → Takes (field_no i 0 ∷ []) at s (Err x) → y.refusal ≡ x.refusal → y.behind ≡ at + size (opened (line_no i)) → Takes (opened (line_no i)) at s (Err y)
  unfolding field_no opened
  opened-first x y e f w = takes_first (field_no i 0 ∷ []) (field_no i 1 ∷ []) s at x y e f w

  pub opened_both : (p : ℕ) (q : Result ℕ Refused) → Takes (field_no i 0 ∷ []) at s (Ok p) → Takes (field_no i 1 ∷ []) p s q → Takes (opened (line_no i)) at s q
  unfolding field_no opened
  opened_both p q e f = takes-both (field_no i 0 ∷ []) (field_no i 1 ∷ []) s at p e q f

  line-stopped : (x y : Refused) → Takes (opened (line_no i)) at s (Err x) → y.refusal ≡ x.refusal → y.behind ≡ at + size (lines_of (line_no i ∷ [])) → Takes (lines_of (line_no i ∷ [])) at s (Err y)
  unfolding lines_of
  line-stopped x y e f w = takes_first (opened (line_no i)) (lf ∷ []) s at x y e f w

  pub line_first : i < 24 → (x y : Refused) → Takes (opened (line_no i)) at s (Err x) → y.refusal ≡ x.refusal → y.behind ≡ x.behind + 1 → Takes (lines_of (line_no i ∷ [])) at s (Err y)
  line_first h x y e f w = line-stopped x y e f (omega (arith, e.behind, line-size i h))

  pub line-both : (p : ℕ) (q : Result ℕ Refused) → Takes (opened (line_no i)) at s (Ok p) → Takes (field_no i 2 ∷ []) p s q → Takes (lines_of (line_no i ∷ [])) at s q
  unfolding field_no opened lines_of
  line-both p q e f = takes-both (opened (line_no i)) (lf ∷ []) s at p e q f

-- ---- lines of the table

pub lines-one : (i m : ℕ) → i < 24 → lines_from i (suc m) ≡ line_no i ∷ lines_from (i + 1) m
unfolding lines_from line_no
lines-one i m h =
    let long : i < length table = unfold table in omega arith in
    rw (drop-cons table i checksum long, add-one i)

-- the lines from i up to end, one and the others
pub lines-first : (i end : ℕ) → i < end → end ≤ 24 → lines_from i (end - i) ≡ line_no i ∷ lines_from (i + 1) (end - (i + 1))
lines-first i end h l =
    let n : end - i ≡ suc (end - (i + 1)) = omega arith in
    rw n (lines-one i (end - (i + 1)) (omega arith))

pub lines_none : (i end : ℕ) → end ≤ i → lines_from i (end - i) ≡ []
unfolding lines_from
lines_none i end h =
    let n : end - i ≡ 0 = omega arith in
    rw n

pub lines_of-cons : (l : Line) (ls : List Line) → lines_of (l ∷ ls) ≡ lines_of (l ∷ []) ++ lines_of ls
unfolding lines_of opened
lines_of-cons l ls = refl

module _ (s : List ℕ) (whole at i end : ℕ) (e : whole ≡ run (lines_of (lines_from i (end - i))) (drop at s)) where
  pub lines_end : end ≤ i → 0 ≡ whole
  unfolding lines_of run
  lines_end h = sym (e ∙ rw (lines_none i end h))

  module _ (h : i < end) (l : end ≤ 24) where
    others : List Field
    others = lines_of (lines_from (i + 1) (end - (i + 1)))

    here : lines_of (lines_from i (end - i)) ≡ lines_of (line_no i ∷ []) ++ others
    unfolding others
    here = rw (lines-first i end h l) (lines_of-cons (line_no i) (lines_from (i + 1) (end - (i + 1))))

    pub lines-stop : (x : Refused) → Takes (lines_of (line_no i ∷ [])) at s (Err x) → number_of x.refusal ≡ whole
    lines-stop x f = takes-stop (lines_of (line_no i ∷ [])) others s at x f ∙ sym (e ∙ rw here)

    pub lines_next : (p : ℕ) → Takes (lines_of (line_no i ∷ [])) at s (Ok p) → whole ≡ run (lines_of (lines_from (i + 1) (end - (i + 1)))) (drop p s)
    unfolding others
    lines_next p f = e ∙ rw here (sym (takes-go (lines_of (line_no i ∷ [])) others s at p f))
