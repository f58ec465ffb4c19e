-- The lines that an accepted append writes are in form: numbers by their size, given fields by its test 6, what is
-- copied from parents because it passed in the parents' own chunks.
--     formed-head formed-dependencies formed-line   the stretches of the first write
--     standard-three                                a listed word has three bytes
-- Assumes nothing.
use Prim.Native.Nat.{ℕ, ◌+◌, ◌*◌, ◌^◌, ◌≤◌, ◌<◌}
use mathlib.Core.Bool.{Bool, true, false}
use mathlib.Core.Path.{◌≡◌, refl, sym, ap, ◌∙◌}
use mathlib.Core.List.{List, [], ◌∷◌, ◌++◌}
use native.Mathlib.Omega.{arith}
use lib.Dec.{eqb, ltb}
use lib.ListN.{length, drop, length-append, length-replicate}
use borrow.Author.Tests.{eqb-true, eq-eqb, ltb-true}
use Rattle.metafile.specs.declared.Row.{Row}
use Rattle.metafile.specs.declared.Description.{Description}
use Rattle.metafile.specs.Bytes.{member}
use Rattle.metafile.specs.Fields.{digits_of}
use Rattle.metafile.specs.Lines.{Kind, count, text, serial, Field, fixed, value, lf, opened, lines_of, kind_fault, fault, field_width, width, first_of, others_of, put, left, formed, chunk_header_length, sub_format_id, generic_type, time_synch_type, time_standard, time_offset, event_synch, dependency_length, dependency_count, dependency_serial, dependency_sub_format, content_length}
use Rattle.metafile.specs.Header.{is_llc, mark_of}
use Rattle.metafile.specs.Chunk.{given_lines, head, header_length_for, dependency_length_for, dependency_fields, sub_format, serial_of, row_at}
use Rattle.metafile.specs.Reading.{rows_of}
use Rattle.metafile.specs.Append.{Given, serial_words, stamp_given, given_values, row_no, sub_format_of, parent_values, all_below, head_values, content_count_for}
use Rattle.laws.proofs.First.{test, and_both, both-and}
use Rattle.laws.proofs.Lists.{all_of, member-all}
use Rattle.laws.proofs.Table.{formed-width, formed-split, lefts}
use Rattle.laws.proofs.Distances.{lines}
use Rattle.laws.proofs.Closed.{fixed-formed, count-formed}
use Rattle.chunk_laws.proofs.Places.{row-placed, serial-taken, sub_format-taken}
use Rattle.written_laws.specs.Taken.{Taken}

-- a label, and a number in n digits
line-formed : (label : List ℕ) (n most x : ℕ) (fs : List Field) (vs : List (List ℕ)) → 0 < n → x < 10 ^ n → x ≤ most
    → formed (fixed label ∷ value (count n most) ∷ fs) (digits_of n x ∷ vs) ≡ formed fs vs
line-formed label n most x fs vs some h l =
    fixed-formed label (value (count n most) ∷ fs) (digits_of n x ∷ vs) ∙ count-formed n most x fs vs some h l

-- ---- the head: two lengths and a count, and the lines given between them

given-first : (d : Description) (more : List (List ℕ)) → formed (lines_of given_lines) (given_values d ++ more) ≡ formed (lines_of given_lines) (given_values d)
unfolding lines given_values formed put left first_of others_of
given-first d more = refl

given-leaves : (d : Description) (more : List (List ℕ)) → lefts (lines_of given_lines) (given_values d ++ more) ≡ more
unfolding lines given_values lefts left others_of
given-leaves d more = refl

pub formed-head : (old : List ℕ) (g : Given) → Taken old g → formed head (head_values g) ≡ true
unfolding lines head head_values header_length_for dependency_length_for
formed-head old g a =
    let small = a.specific-small in
    let few = a.parents-few in
    let n : ℕ = length g.parents in
    let more : List (List ℕ) = digits_of 12 (29 + 344 * n) ∷ digits_of 4 n ∷ [] in
    let behind : List Field = opened dependency_length ++ lf ∷ opened dependency_count in
    let values : List (List ℕ) = given_values g.description ++ more in
    line-formed chunk_header_length.label 12 999999999999 (536 + 344 * n + length g.specific) (lf ∷ lines_of given_lines ++ behind) values (omega arith) (omega arith) (omega arith)
    ∙ fixed-formed (10 ∷ []) (lines_of given_lines ++ behind) values
    ∙ formed-split (lines_of given_lines) behind values
    ∙ both-and _ _ (given-first g.description more ∙ a.in-given)
    (ap (formed behind) (given-leaves g.description more)
    ∙ line-formed dependency_length.label 12 999999999999 (29 + 344 * n) (lf ∷ opened dependency_count) (digits_of 4 n ∷ []) (omega arith) (omega arith) (omega arith)
    ∙ fixed-formed (10 ∷ []) (opened dependency_count) (digits_of 4 n ∷ [])
    ∙ line-formed dependency_count.label 4 9999 n [] [] (omega arith) (omega arith) (omega arith)
    ∙ (unfold formed in refl))

-- ---- what is copied from parents

-- a value that fills its width, and that the reader takes
value-formed : (k : Kind) (v : List ℕ) (fs : List Field) (vs : List (List ℕ)) → length v ≡ width k → kind_fault k v ≡ 0
    → formed (value k ∷ fs) (v ∷ vs) ≡ formed fs vs
unfolding formed put left first_of others_of field_width fault
value-formed k v fs vs l e = rw (eq-eqb (length v) (width k) l, e)

parent-formed : (old : List ℕ) (k : ℕ) → k < length (rows_of old) → (fs : List Field) (vs : List (List ℕ))
    → formed (lines_of (dependency_serial ∷ dependency_sub_format ∷ []) ++ fs) ((row_no (rows_of old) k).serial ∷ sub_format_of old (row_no (rows_of old) k) ∷ vs) ≡ formed fs vs
unfolding lines row_at sub_format_of
parent-formed old k h fs vs =
    let w = row-placed old k h in
    let chunk : List ℕ = drop (row_no (rows_of old) k).place old in
    let serial-is : (row_no (rows_of old) k).serial ≡ serial_of (mark_of old) chunk = ap (λ (x : Row). x.serial) w.row in
    let s = serial-taken (is_llc old) (mark_of old) chunk w.chunk in
    let f = sub_format-taken (is_llc old) (mark_of old) chunk w.chunk in
    rw serial-is
    (fixed-formed dependency_serial.label _ _
    ∙ value-formed serial (serial_of (mark_of old) chunk) _ _ s.0 s.1
    ∙ fixed-formed (10 ∷ []) _ _
    ∙ fixed-formed dependency_sub_format.label _ _
    ∙ value-formed (text 256) (sub_format chunk) _ _ f.0 f.1
    ∙ fixed-formed (10 ∷ []) fs vs)

parents-formed : (old : List ℕ) (ks : List ℕ) → all_below (length (rows_of old)) ks ≡ true
    → formed (dependency_fields (length ks)) (parent_values old (rows_of old) ks) ≡ true
unfolding all_below dependency_fields parent_values lines
parents-formed old [] h = unfold formed in refl
parents-formed old (k ∷ ks) h =
    let below = and_both (ltb k (length (rows_of old))) (all_below (length (rows_of old)) ks) h in
    let one = parent-formed old k (ltb-true _ _ below.0) (dependency_fields (length ks)) (parent_values old (rows_of old) ks) in
    one ∙ parents-formed old ks below.1

pub formed-dependencies : (old : List ℕ) (g : Given) → Taken old g
    → formed (lf ∷ dependency_fields (length g.parents)) (parent_values old (rows_of old) g.parents) ≡ true
unfolding lf
formed-dependencies old g a = fixed-formed (10 ∷ []) _ _ ∙ parents-formed old g.parents a.parents-below

-- ---- the content length line

pub count_fits : (is_open : Bool) (v : List ℕ) → length v ≤ 2 ^ 30 → content_count_for is_open v ≤ 999999999999
unfolding content_count_for
count_fits true v h = omega arith
count_fits false v h = omega arith

pub formed-line : (old : List ℕ) (g : Given) → Taken old g → formed (lines_of (content_length ∷ [])) (digits_of 12 (content_count_for g.is_open g.contents) ∷ []) ≡ true
unfolding lines
formed-line old g a =
    let fits-it = count_fits g.is_open g.contents a.contents-small in
    line-formed content_length.label 12 999999999999 (content_count_for g.is_open g.contents) (lf ∷ []) [] (omega arith) (omega arith) (omega arith)
    ∙ fixed-formed (10 ∷ []) [] []
    ∙ (unfold formed in refl)

-- ---- a listed word

-- with the 38 bytes behind it a word fills its field: it has three bytes
word-three : (k : Kind) (w v : List ℕ) → all_of (λ x. eqb (length x) 3) (serial_words k) ≡ true → length (stamp_given k w v) ≡ 41 → length w ≡ 3
unfolding stamp_given
word-three k w v h l =
    test (member w (serial_words k))
    (λ e. eqb-true (length w) 3 (member-all (λ x. eqb (length x) 3) w (serial_words k) h e))
    (λ e. let n = simp (e, length-append, length-replicate) at l in omega arith)

width-at : (a : List Field) (f : Field) (b : List Field) (vs : List (List ℕ)) → formed (a ++ f ∷ b) vs ≡ true → length (put f (lefts a vs)) ≡ field_width f
width-at a f b vs e = formed-width f b (lefts a vs) (and_both (formed a vs) (formed (f ∷ b) (lefts a vs)) (sym (formed-split a (f ∷ b) vs) ∙ e)).1

pub standard-three : (old : List ℕ) (g : Given) → Taken old g → length g.description.standard ≡ 3
unfolding lines given_values serial_words all_of put left lefts first_of others_of
standard-three old g a =
    word-three time_standard.kind g.description.standard g.description.alternate refl
    (width-at (lines_of (sub_format_id ∷ generic_type ∷ time_synch_type ∷ []) ++ fixed time_standard.label ∷ []) (value time_standard.kind)
    (lf ∷ lines_of (time_offset ∷ event_synch ∷ [])) (given_values g.description) a.in-given)
