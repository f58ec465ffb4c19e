-- The row of a number (specs/Cursor, named_of; "judge the file's bytes by a reading with rows enough"), for the calls that
-- name a row: contents, parent and gather.
--     over within-..      "11 a lent byte buffer over 2^30"
--     tests-on tests-end  11 and 13 are the first two tests of each call: passed; none is left
--     named-..            the answers of row_of
--     number_is refused   its number is that of the first test that refuses, whichever tests follow
--     Named, named        the row is there: its parts, by the layout of its chunk, and inside the file
--     named-goes refused_by   a row answered, or a refusal
--     named_small         the file is within the limit
--     named-short         no row is answered within the limit: no row of that number is there
--     named-later refused-later earlier-place   what was answered for an earlier row
-- Assumes nothing.
use Prim.Native.Nat.{ℕ, suc, ◌+◌, ◌≤◌, ◌<◌}
use mathlib.Core.Bool.{Bool, true, false}
use mathlib.Core.Path.{◌≡◌, refl, sym, ap, ◌∙◌}
use mathlib.Core.List.{List, [], ◌∷◌}
use native.Mathlib.Omega.{arith}
use lib.Dec.{leb, ltb}
use Rattle.std.specs.declared.result.Result.TheVariants.{Ok}
use lib.ListN.{length, drop}
use borrow.Author.Tests.{le-leb, lt-leb, leb-true, leb-false, ltb-true, ltb-false}
use Rattle.metafile.specs.declared.Row.{Row}
use Rattle.metafile.specs.declared.refusal.Refusal.{Refusal}
use Rattle.metafile.specs.Refusals.{number_of}
use Rattle.lines.proofs.Runs.{refused as some}
use Rattle.metafile.specs.Header.{is_llc, mark_of, header_fault}
use Rattle.metafile.specs.Chunk.{chunk_fault, row_at}
use Rattle.metafile.specs.Reading.{rows_of}
use Rattle.metafile.specs.Answers.{Test, refuse, first_refusal, limit, over_limit}
use Rattle.metafile.specs.Append.{row_no}
use Rattle.metafile.specs.Calls.{contents_tests}
use Rattle.laws.proofs.First.{test, cases, untrue, or-false, choose-go, choose-stop}
use Rattle.laws.proofs.Accepted.{refusal-none, refusal-first, refusal-next, tests-end, limit-over, limit-under, limit-small}
use Rattle.chunk_laws.proofs.File.{header-cases, rows-unbegun}
use Rattle.chunk_laws.proofs.Places.{RowInside, row_inside}
use Rattle.chunk.specs.declared.parts.Layout.{Layout}
use Rattle.chunk.specs.Layout.{faulty, parts_of, layout_of}
use Rattle.walk.specs.declared.cursor.Cursor.{Cursor}
use Rattle.walk.specs.Walk.{header_of, place_after, chunk_at}
use Rattle.walk.specs.Index.{Indexed}
use Rattle.walk.specs.Cursor.{cursor_of, cursor_none, cursor_at, At, named_of}
use Rattle.walk.proofs.Steps.{row_is, row-place, row-unfaulted}
use Rattle.walk.proofs.Cursors.{cursor-row}

-- ---- 11

pub within_first : (n : ℕ) (ns : List ℕ) → over_limit (n ∷ ns) ≡ false → over_limit (n ∷ []) ≡ false
unfolding over_limit
within_first n ns e = rw (or-false (ltb limit n) (over_limit ns) e).0

-- ---- the first two tests

pub tests-on : (a : Bool) (n k : ℕ) (ts : List Test) → a ≡ false → k < n → first_refusal (refuse 11 a ∷ refuse 13 (leb n k) ∷ ts) ≡ first_refusal ts
tests-on a n k ts p h = refusal-next 11 a _ p ∙ refusal-next 13 (leb n k) ts (lt-leb n k h)

-- one of them refuses
tests-stop : (a b : Bool) (ts : List Test) → (first_refusal (refuse 11 a ∷ refuse 13 b ∷ []) ≡ 0 → ⊥)
    → first_refusal (refuse 11 a ∷ refuse 13 b ∷ ts) ≡ first_refusal (refuse 11 a ∷ refuse 13 b ∷ [])
unfolding first_refusal refuse
tests-stop true b ts h = refl
tests-stop false true ts h = refl
tests-stop false false ts h = absurd (h refl)

-- where one of them refuses, a later row is refused with the same number
tests-later : (a b d : Bool) → (b ≡ true → d ≡ true) → (first_refusal (refuse 11 a ∷ refuse 13 b ∷ []) ≡ 0 → ⊥)
    → first_refusal (refuse 11 a ∷ refuse 13 d ∷ []) ≡ first_refusal (refuse 11 a ∷ refuse 13 b ∷ [])
unfolding first_refusal refuse
tests-later true b d f h = refl
tests-later false true d f h = rw (f refl)
tests-later false false d f h = absurd (h refl)

-- ---- the answers of row_of

module _ (file : List ℕ) (k : ℕ) {c : Cursor} where
  stop-with : (n : ℕ) → first_refusal (contents_tests file k) ≡ suc n → c ≡ cursor_none (suc n) → c ≡ named_of file k
  unfolding named_of
  stop-with n e is = is ∙ sym (choose-stop (first_refusal (contents_tests file k)) _ _ (λ z. omega arith) ∙ ap cursor_none e)

  pub named-11 : 1073741824 < length file → c ≡ cursor_none 11 → c ≡ named_of file k
  unfolding contents_tests
  named-11 h = stop-with 10 (refusal-first 11 _ _ (limit-over (length file) [] h))

  module _ (h : length file ≤ 1073741824) where
    pub named-13 : length (rows_of file) ≤ k → c ≡ cursor_none 13 → c ≡ named_of file k
    unfolding contents_tests
    named-13 l = stop-with 12 (refusal-next 11 _ _ (limit-under (length file) h) ∙ refusal-first 13 _ [] (le-leb _ k l))

    pub named-row : k < length (rows_of file) → c ≡ cursor_at file c.row → c.row ≡ k → c ≡ named_of file k
    unfolding named_of contents_tests
    named-row l is e =
        let none : first_refusal (contents_tests file k) ≡ 0 = tests-on _ _ k [] (limit-under (length file) h) l ∙ tests-end in
        is ∙ ap (cursor_at file) e ∙ sym (choose-go (first_refusal (contents_tests file k)) _ _ none)

-- ---- what they say

pub record Named (file : List ℕ) (k : ℕ) (c : Cursor) : Type 0 where
  pub in_rows : k < length (rows_of file)
  pub file-small : over_limit (length file ∷ []) ≡ false
  pub is : c ≡ cursor_at file c.row
  pub row_is : c.row ≡ k
  pub goes : c.go ≡ true
  pub lies : RowInside file (row_no (rows_of file) k)
  pub place_is : c.at ≡ (row_no (rows_of file) k).place
  pub contents-is : c.at + c.layout.contents ≡ (row_no (rows_of file) k).contents
  pub bytes-is : c.layout.bytes ≡ (row_no (rows_of file) k).bytes
  pub dependencies-is : c.layout.dependencies ≡ (row_no (rows_of file) k).dependencies
  pub multichunk-is : c.layout.multichunk ≡ (row_no (rows_of file) k).multichunk

-- the file header is whole
place-begun : {file : List ℕ} {k : ℕ} {c : Cursor} → Named file k c → header_fault file ≡ 0
place-begun {file} w = header-cases file (λ q. q) (λ q. absurd (omega (arith, w.in_rows, ap length (rows-unbegun file q))))

-- no test refuses
pub none_passed : (file : List ℕ) (k : ℕ) → first_refusal (contents_tests file k) ≡ 0 → (over_limit (length file ∷ []) ≡ false) × (k < length (rows_of file))
unfolding contents_tests
none_passed file k none =
    let small = refusal-none 10 _ _ none in
    (small.0, leb-false _ k (refusal-none 12 _ _ small.1).0)

module _ (file : List ℕ) (k : ℕ) (c : Cursor) (e : c ≡ named_of file k) where
  module _ (none : first_refusal (contents_tests file k) ≡ 0) where
    passed : (over_limit (length file ∷ []) ≡ false) × (k < length (rows_of file))
    passed = none_passed file k none

    begun : header_fault file ≡ 0
    begun = header-cases file (λ q. q) (λ q. absurd (omega (arith, passed.1, ap length (rows-unbegun file q))))

    at_row : c ≡ cursor_at file k
    unfolding named_of
    at_row = e ∙ choose-go (first_refusal (contents_tests file k)) _ _ none

    row-all : c ≡ cursor_of (header_of file) k (place_after file k) (Ok (chunk_at file (place_after file k)))
    row-all = at_row ∙ cursor-row file k begun passed.1

    layout_is : c.layout ≡ parts_of (mark_of file) (drop (place_after file k) file)
    unfolding chunk_at layout_of
    layout_is = ap (λ (x : Cursor). x.layout) row-all ∙ choose-go (chunk_fault (is_llc file) (mark_of file) (drop (place_after file k) file)) _ faulty (row-unfaulted file begun k passed.1)

    found : Named file k c
    unfolding parts_of row_at
    found =
        let row : c.row ≡ k = ap (λ (x : Cursor). x.row) row-all in
        let place : c.at ≡ place_after file k = ap (λ (x : Cursor). x.at) row-all in
        let r = row_is file begun k passed.1 in
        record {
          in_rows = passed.1;
          file-small = passed.0;
          is = at_row ∙ ap (cursor_at file) (sym row);
          row_is = row;
          goes = ap (λ (x : Cursor). x.go) row-all;
          lies = row_inside file k passed.1;
          place_is = place ∙ sym (ap (λ (x : Row). x.place) r);
          contents-is = rw (place, layout_is) (sym (ap (λ (x : Row). x.contents) r));
          bytes-is = ap (λ (x : Layout). x.bytes) layout_is ∙ sym (ap (λ (x : Row). x.bytes) r);
          dependencies-is = ap (λ (x : Layout). x.dependencies) layout_is ∙ sym (ap (λ (x : Row). x.dependencies) r);
          multichunk-is = ap (λ (x : Layout). x.multichunk) layout_is ∙ sym (ap (λ (x : Row). x.multichunk) r);
        }

  pub number_is : c.number ≡ first_refusal (contents_tests file k)
  unfolding named_of cursor_none
  number_is =
      cases (first_refusal (contents_tests file k))
      (λ z. ap (λ (x : Cursor). x.number) (row-all z) ∙ sym z)
      (λ n z. ap (λ (x : Cursor). x.number) (e ∙ choose-stop (first_refusal (contents_tests file k)) _ _ (λ q. omega arith)))

  pub named : c.number ≡ 0 → Named file k c
  named z = found (sym number_is ∙ z)

  pub refused : (c.number ≡ 0 → ⊥) → (ts : List Test) → first_refusal (refuse 11 (over_limit (length file ∷ [])) ∷ refuse 13 (leb (length (rows_of file)) k) ∷ ts) ≡ c.number
  unfolding contents_tests
  refused z ts = tests-stop _ _ ts (λ q. z (number_is ∙ q)) ∙ sym number_is

module _ (file : List ℕ) (k : ℕ) where
  -- a row is answered, as a cursor that goes
  pub named-goes : {c : Cursor} → c ≡ named_of file k → c.go ≡ true → Named file k c
  unfolding named_of cursor_none
  named-goes {c} e g =
      cases (first_refusal (contents_tests file k))
      (λ z. named file k c e (number_is file k c e ∙ z))
      (λ n z. untrue (sym (ap (λ (x : Cursor). x.go) (e ∙ choose-stop (first_refusal (contents_tests file k)) _ _ (λ q. omega arith))) ∙ g))

  -- a refusal is: that of the first test that refuses, whichever tests follow
  pub refused_by : (r : Refusal) → cursor_none (number_of r) ≡ named_of file k → (ts : List Test)
      → first_refusal (refuse 11 (over_limit (length file ∷ [])) ∷ refuse 13 (leb (length (rows_of file)) k) ∷ ts) ≡ number_of r
  unfolding cursor_none
  refused_by r e ts = refused file k (cursor_none (number_of r)) e (some r) ts

pub named_small : {file : List ℕ} {k : ℕ} {c : Cursor} → Named file k c → length file ≤ 1073741824
named_small {file} w = limit-small (length file) [] w.file-small

-- what is answered for row m, for a later row: the same number, or a place on the way to it
module _ (file : List ℕ) (m k : ℕ) (l : m ≤ k) (c : Cursor) (e : c ≡ named_of file m) where
  pub named-later : (c.number ≡ 0 → ⊥) → c ≡ named_of file k
  unfolding named_of contents_tests
  named-later z =
      let stop : first_refusal (contents_tests file m) ≡ 0 → ⊥ = λ q. z (number_is file m c e ∙ q) in
      let same : first_refusal (contents_tests file k) ≡ first_refusal (contents_tests file m) =
      tests-later _ _ _ (λ q. le-leb (length (rows_of file)) k (omega (arith, leb-true (length (rows_of file)) m q))) stop in
      e
      ∙ choose-stop (first_refusal (contents_tests file m)) _ _ stop
      ∙ ap cursor_none (sym same)
      ∙ sym (choose-stop (first_refusal (contents_tests file k)) _ _ (λ q. stop (sym same ∙ q)))

  pub named-earlier : {own : Cursor} → Named file k own → Named file m c
  unfolding contents_tests
  named-earlier w =
      named file m c e (number_is file m c e ∙ tests-on _ _ m [] w.file-small (omega (arith, w.in_rows)) ∙ tests-end)

  pub earlier-place : {own : Cursor} → Named file k own → c.at ≡ place_after file m
  earlier-place w =
      let n = named-earlier w in
      n.place_is ∙ row-place file (place-begun n) m n.in_rows

-- no row is there, by a cursor that doesn't go, in a file within the limit
pub named-short : (file : List ℕ) (m : ℕ) {c : Cursor} → c ≡ named_of file m → c.go ≡ false → length file ≤ 1073741824 → length (rows_of file) ≤ m
unfolding contents_tests
named-short file m {c} e g h =
    test (ltb m (length (rows_of file)))
    (λ q.
    let none : first_refusal (contents_tests file m) ≡ 0 = tests-on _ _ m [] (limit-under (length file) h) (ltb-true _ _ q) ∙ tests-end in
    untrue (sym g ∙ (named file m c e (number_is file m c e ∙ none)).goes))
    (λ q. ltb-false _ _ q)

-- a later row is refused as the earlier is
pub refused-later : (file : List ℕ) (m k : ℕ) → m ≤ k → (r : Refusal) → cursor_none (number_of r) ≡ named_of file m → cursor_none (number_of r) ≡ named_of file k
unfolding cursor_none
refused-later file m k l r e = named-later file m k l (cursor_none (number_of r)) e (some r)

pub named-at : {file : List ℕ} {k : ℕ} {c : Cursor} → Named file k c → {index : List ℕ} → Indexed file (k + 1) index → At file c index
named-at w more = record { is = w.is; few = omega (arith, w.in_rows, w.row_is); indexed = rw w.row_is more }
