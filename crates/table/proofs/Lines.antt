-- The code's table of lines is the table of the definitions. One equation of lists and one test over the whole table,
-- each computed once; the rule at each number follows.
--     line-is       the line at a number, from the code's row
--     label-fits label-held   its label stands in the bytes that the row has for it
--     label-part, label-long, width_is   its label, the label's length, the value's width
--     width_small number_small checksum-small   bounds of the widths
-- Assumes nothing.
use Prim.Native.Nat.{ℕ, zero, suc, ◌≤◌, ◌<◌}
use mathlib.Core.Bool.{Bool, true, ◌&&◌}
use mathlib.Core.Path.{◌≡◌, refl, ap}
use mathlib.Core.List.{List, [], ◌∷◌}
use native.Mathlib.Omega.{arith}
use lib.Dec.{leb, eqb}
use lib.ListN.{length, take, get_or, length-take}
use borrow.Author.Tests.{leb-true, eqb-true}
use Rattle.table.specs.declared.Kind.{Kind as Code}
use Rattle.table.specs.declared.Kind.TheVariants.{Number, Checksum, Text, Date, Offset, Serial, Generic, Synch, Standard, Event, Strategy}
use Rattle.table.specs.declared.Line.{Line as CodeLine}
use Rattle.table.specs.Codes.{line_no, kind_of, codes, code_no}
use Rattle.metafile.specs.Lines.{Line, width, i12, i4, table, chunk_header_length, sub_format_id, generic_type, time_synch_type, time_standard, time_offset, event_synch, dependency_length, dependency_count, dependency_serial, dependency_sub_format, content_length, multi_header_length, type_count, sub_type_length, short_id, chunk_serial, recording_date, recording_agent, writing_date, writing_agent, checksum, format_id, separator_strategy}
use Rattle.laws.proofs.First.{and_both}

-- ---- rules of a list, at each place

every : {A : Type 0} → (A → Bool) → List A → Bool
every p [] = true
every p (x ∷ xs) = p x && every p xs

every-at : {A : Type 0} (p : A → Bool) (l : List A) (d : A) → every p l ≡ true → (i : ℕ) → i < length l → p (get_or l i d) ≡ true
unfolding every
every-at p [] d e i h = absurd (omega arith)
every-at p (x ∷ xs) d e zero h = (and_both (p x) (every p xs) e).0
every-at p (x ∷ xs) d e (suc i) h = every-at p xs d (and_both (p x) (every p xs) e).1 i (omega arith)

-- ---- the last arm of a match on a number

-- it is none of the first n numbers
unfoldable pub None : ℕ → ℕ → Type 0
None i zero = Unit {0}
None i (suc n) = None i n × (i ≡ n → ⊥)

none_above : (i n : ℕ) → None i n → n ≤ i
unfolding None
none_above i zero g = omega arith
none_above i (suc n) g =
    let l = none_above i n g.0 in
    let d : i ≡ n → ⊥ = g.1 in
    omega arith

pub last : (i : ℕ) → i < 24 → None i 23 → i ≡ 23
last i h g = omega (arith, none_above i 23 g)

-- ---- the line that a row of the code stands for

line_of : CodeLine → Line
line_of c = record { label = take c.long c.label; kind = kind_of c.kind c.width }

lines_for : List CodeLine → List Line
lines_for [] = []
lines_for (c ∷ cs) = line_of c ∷ lines_for cs

-- the row past the last
abbrev none : CodeLine
none = record { label = []; long = 0; width = 0; kind = Code.Number }

line_at : (cs : List CodeLine) (i : ℕ) (d : Line) → i < length cs → get_or (lines_for cs) i d ≡ line_of (get_or cs i none)
unfolding lines_for
line_at [] i d h = absurd (omega arith)
line_at (c ∷ cs) zero d h = refl
line_at (c ∷ cs) (suc i) d h = line_at cs i d (omega arith)

tables : table ≡ lines_for codes
unfolding table codes lines_for line_of kind_of i12 i4 chunk_header_length sub_format_id generic_type time_synch_type time_standard time_offset event_synch dependency_length dependency_count dependency_serial dependency_sub_format content_length multi_header_length type_count sub_type_length short_id chunk_serial recording_date recording_agent writing_date writing_agent checksum format_id separator_strategy
tables = refl

count-is : length codes ≡ 24
unfolding codes
count-is = refl

pub line-is : (i : ℕ) → i < 24 → line_no i ≡ record { label = take (code_no i).long (code_no i).label; kind = kind_of (code_no i).kind (code_no i).width }
unfolding line_no code_no line_of
line-is i h = rw tables (line_at codes i checksum (omega (arith, count-is)))

pub label-part : (i : ℕ) → i < 24 → (line_no i).label ≡ take (code_no i).long (code_no i).label
label-part i h = ap (λ (l : Line). l.label) (line-is i h)

pub kind-is : (i : ℕ) → i < 24 → (line_no i).kind ≡ kind_of (code_no i).kind (code_no i).width
kind-is i h = ap (λ (l : Line). l.kind) (line-is i h)

-- a test that holds of every row holds of row i
at_each : (p : CodeLine → Bool) → every p codes ≡ true → (i : ℕ) → i < 24 → p (code_no i) ≡ true
unfolding code_no
at_each p e i h = every-at p codes none e i (omega (arith, count-is))

-- ---- labels stand in the bytes that the rows have for them

inside : CodeLine → Bool
inside c = leb c.long 38 && eqb (length c.label) 38

all-inside : every inside codes ≡ true
unfolding every inside codes
all-inside = refl

module _ (i : ℕ) (h : i < 24) where
  inside-at : ((code_no i).long ≤ 38) × (length (code_no i).label ≡ 38)
  unfolding inside
  inside-at =
      let e = and_both _ _ (at_each inside all-inside i h) in
      (leb-true _ _ e.0, eqb-true _ _ e.1)

  pub label-fits : (code_no i).long ≤ 38
  label-fits = inside-at.0

  pub label-held : (code_no i).long ≤ length (code_no i).label
  label-held = omega (arith, inside-at)

  pub label-long : length (line_no i).label ≡ (code_no i).long
  label-long = rw (label-part i h) (simp length-take (omega (arith, inside-at)))

-- ---- the widths of the code are those of the kinds

wide : CodeLine → Bool
wide c = eqb (width (kind_of c.kind c.width)) c.width

all-wide : every wide codes ≡ true
unfolding every wide codes kind_of width generic_type time_synch_type time_standard event_synch
all-wide = refl

pub width_is : (i : ℕ) → i < 24 → width (line_no i).kind ≡ (code_no i).width
unfolding wide
width_is i h = rw (kind-is i h) (eqb-true _ _ (at_each wide all-wide i h))

-- the widths are small, those of numbers at most 12
most : Code → ℕ
most Number = 12
most Checksum = 12
most Text = 256
most Date = 256
most Offset = 256
most Serial = 256
most Generic = 256
most Synch = 256
most Standard = 256
most Event = 256
most Strategy = 256

narrow : CodeLine → Bool
narrow c = leb c.width (most c.kind) && leb c.width 256

all-narrow : every narrow codes ≡ true
unfolding every narrow most codes
all-narrow = refl

module _ (i : ℕ) (h : i < 24) where
  narrow_at : ((code_no i).width ≤ most (code_no i).kind) × ((code_no i).width ≤ 256)
  unfolding narrow
  narrow_at =
      let e = and_both _ _ (at_each narrow all-narrow i h) in
      (leb-true _ _ e.0, leb-true _ _ e.1)

  pub width_small : (code_no i).width ≤ 256
  width_small = narrow_at.1

  pub number_small : (code_no i).kind ≡ Number → (code_no i).width ≤ 12
  unfolding most
  number_small e = rw e at narrow_at.0

  pub checksum-small : (code_no i).kind ≡ Checksum → (code_no i).width ≤ 12
  unfolding most
  checksum-small e = rw e at narrow_at.0
