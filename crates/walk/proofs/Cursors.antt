-- A cursor over the rows of a file (specs/Cursor): what every loop over the rows needs.
--     cursor-behind cursor-none first-behind   the cursor made behind n rows, and where the file header isn't whole
--     There goes-.. there         a cursor that goes stands at a row of the reading: its place, its chunk
--     Stops cursor-stopped stops   one that stops stands behind the last row, at the reading's stop, with the reading's number
--     known-cursor                the cursor at a row that is known to be there
--     onward-row onward onto      where the reading stands behind the row of a cursor, and before the last row that is counted
-- Assumes nothing.
use Prim.Native.Nat.{ℕ, ◌+◌, ◌-◌, ◌≤◌, ◌<◌}
use mathlib.Core.Bool.{true, false}
use mathlib.Core.Path.{◌≡◌, sym, ap, ◌∙◌}
use mathlib.Core.List.{List}
use native.Mathlib.Numerals.{add-one}
use Rattle.std.specs.declared.result.Result.{Result}
use Rattle.std.specs.declared.result.Result.TheVariants.{Ok, Err}
use native.Mathlib.Omega.{arith}
use lib.Dec.{ltb}
use lib.ListN.{length}
use borrow.Author.Tests.{lt-ltb, le-ltb, ltb-true, ltb-false}
use Rattle.metafile.specs.Header.{header_fault}
use Rattle.metafile.specs.Reading.{halt, with_header, unbegun, reading, rows_of}
use Rattle.metafile.specs.Append.{row_no}
use Rattle.laws.proofs.First.{test, untrue, choose-go, choose-stop}
use Rattle.chunk_laws.proofs.File.{header-cases, good-begun, rows-unbegun, read-unbegun}
use Rattle.chunk.specs.declared.parts.Layout.{Layout}
use Rattle.walk.specs.declared.answers.Header.{Header}
use Rattle.walk.specs.declared.cursor.Cursor.{Cursor}
use Rattle.walk.specs.Walk.{header_of, place_after, chunk_at, step_of}
use Rattle.walk.specs.Index.{count_of, last_of, Indexed}
use Rattle.walk.specs.Cursor.{Behind, cursor_of, cursor_none, numbered, cursor_unbegun, cursor_at, At}
use Rattle.walk.proofs.Stages.{header-number, header_is}
use Rattle.walk.proofs.Steps.{row-end, place_none, stop_is}
use Rattle.walk.proofs.Index.{indexed-more}
use Rattle.walk.proofs.Loops.{Turn, turn}

-- ---- the cursor behind n rows

module _ (file : List ℕ) (n : ℕ) where
  cursor-begun : header_fault file ≡ 0 → cursor_at file n ≡ cursor_of (header_of file) n (place_after file n) (step_of file n)
  unfolding cursor_at
  cursor-begun e = choose-go (header_fault file) _ (cursor_unbegun file) e

  cursor-unbegun : (header_fault file ≡ 0 → ⊥) → cursor_at file n ≡ cursor_unbegun file (header_fault file)
  unfolding cursor_at
  cursor-unbegun e = choose-stop (header_fault file) _ (cursor_unbegun file) e

  module _ (e : header_fault file ≡ 0) where
    pub cursor-row : n < length (rows_of file)
        → cursor_at file n ≡ cursor_of (header_of file) n (place_after file n) (Ok (chunk_at file (place_after file n)))
    unfolding step_of
    cursor-row h = cursor-begun e ∙ rw (lt-ltb n (length (rows_of file)) h)

    cursor-end : length (rows_of file) ≤ n → cursor_at file n ≡ cursor_of (header_of file) n (place_after file n) (Err (reading file).number)
    unfolding step_of
    cursor-end h = cursor-begun e ∙ rw (le-ltb n (length (rows_of file)) h)

pub cursor-behind : {file : List ℕ} {h : Header} {n at : ℕ} → Behind file h n at → {s : Result Layout ℕ} → s ≡ step_of file n
    → {index : List ℕ} → Indexed file (n + 1) index → At file (cursor_of h n at s) index
cursor-behind {file} {h} {n} w is more =
    let e = (header_is h file w.header_is w.whole).whole in
    record { is = rw (w.header_is, w.place_is, is) (sym (cursor-begun file n e)); few = w.few; indexed = more }

-- at a row that is known to be there
pub known-cursor : {file : List ℕ} {h : Header} {n at : ℕ} → Behind file h n at → n < length (rows_of file) → {l : Layout} → l ≡ chunk_at file at
    → cursor_of h n at (Ok l) ≡ cursor_at file n
known-cursor {file} {h} {n} w less is =
    let e = (header_is h file w.header_is w.whole).whole in
    rw (is, w.header_is, w.place_is) (sym (cursor-row file n e less))

pub cursor-none : (file : List ℕ) (h : Header) → h ≡ header_of file → (h.number ≡ 0 → ⊥) → {c : Cursor} {n : ℕ} → c ≡ cursor_none h.number
    → n ≡ unbegun (length file) h.number → {index : List ℕ} → Indexed file 0 index → At file (numbered c n) index × (c.row ≡ 0)
unfolding cursor_unbegun cursor_none
cursor-none file h is z {c} {n} e s none =
    let fault = header-number h file is in
    let row : c.row ≡ 0 = ap (λ (x : Cursor). x.row) e in
    let here : numbered c n ≡ cursor_unbegun file (header_fault file) = rw (e, s, fault) in
    (record { is = here ∙ sym (cursor-unbegun file c.row (λ q. z (fault ∙ q))); few = omega arith; indexed = indexed-more none (omega arith) }, row)

pub first-behind : (file : List ℕ) (h : Header) → h ≡ header_of file → h.number ≡ 0 → Behind file h 0 h.end
first-behind file h is z =
    let w = header_is h file is z in
    record { header_is = is; whole = z; few = omega arith; place_is = w.end_is ∙ sym (place_none file w.whole) }

-- ---- what a cursor says of the reading

pub record There (file : List ℕ) (c : Cursor) : Type 0 where
  pub begun : header_fault file ≡ 0
  pub behind : Behind file c.header c.row c.at
  pub turn : Turn file c.row c.at c.layout

pub record Stops (file : List ℕ) (c : Cursor) : Type 0 where
  pub count : length (rows_of file) ≡ c.row
  pub stop : c.at ≡ (reading file).stop
  pub number_is : c.number ≡ (reading file).number
  pub good-is : c.header.good ≡ (reading file).good

module _ (file : List ℕ) (c : Cursor) (n : ℕ) (is : c ≡ cursor_at file n) where
  pub begun-behind : header_fault file ≡ 0 → n ≤ length (rows_of file) → (c.row ≡ n) × Behind file c.header c.row c.at
  begun-behind e few =
      let all = is ∙ cursor-begun file n e in
      let header : c.header ≡ header_of file = ap (λ (x : Cursor). x.header) all in
      let row : c.row ≡ n = ap (λ (x : Cursor). x.row) all in
      (row, record { header_is = header; whole = header-number c.header file header ∙ e; few = omega arith; place_is = rw row (ap (λ (x : Cursor). x.at) all) })

  unbegun-is : (header_fault file ≡ 0 → ⊥) → c ≡ cursor_unbegun file (header_fault file)
  unbegun-is e = is ∙ cursor-unbegun file n e

  -- a cursor that goes
  module _ (g : c.go ≡ true) where
    going : {A : Type 0} → (header_fault file ≡ 0 → n < length (rows_of file) → A) → A
    unfolding cursor_unbegun cursor_none
    going f =
        header-cases file
        (λ e. test (ltb n (length (rows_of file)))
        (λ q. f e (ltb-true _ _ q))
        (λ q. untrue (sym (ap (λ (x : Cursor). x.go) (is ∙ cursor-end file n e (ltb-false _ _ q))) ∙ g)))
        (λ e. untrue (sym (ap (λ (x : Cursor). x.go) (unbegun-is e)) ∙ g))

    pub goes-row : c.row ≡ n
    goes-row = going (λ e h. (begun-behind e (omega arith)).0)

    pub goes-there : There file c
    goes-there =
        going
        (λ e h.
        let b = begun-behind e (omega arith) in
        let layout = ap (λ (x : Cursor). x.layout) (is ∙ cursor-row file n e h) in
        let place : place_after file n ≡ c.at = sym (ap (λ (x : Cursor). x.at) (is ∙ cursor-row file n e h)) in
        record { begun = e; behind = b.1; turn = turn file e _ _ c.layout (rw b.0 h) b.1.place_is (layout ∙ ap (chunk_at file) place) })

  pub cursor-few : n ≤ length (rows_of file) → c.row ≡ n
  unfolding cursor_unbegun cursor_none
  cursor-few few =
      header-cases file
      (λ e. (begun-behind e few).0)
      (λ e. ap (λ (x : Cursor). x.row) (unbegun-is e) ∙ omega (arith, ap length (rows-unbegun file e)))

  -- one that stops, behind no more rows than there are
  pub cursor-stopped : n ≤ length (rows_of file) → c.go ≡ false → Stops file c
  unfolding cursor_unbegun cursor_none reading with_header halt
  cursor-stopped few g =
      header-cases file
      (λ e. test (ltb n (length (rows_of file)))
      (λ q. untrue (sym g ∙ ap (λ (x : Cursor). x.go) (is ∙ cursor-row file n e (ltb-true _ _ q))))
      (λ q.
      let h = ltb-false _ _ q in
      let b = begun-behind e few in
      let count : length (rows_of file) ≡ c.row = omega (arith, b.0) in
      record {
        count = count;
        stop = b.1.place_is ∙ sym (stop_is file e ∙ ap (place_after file) count);
        number_is = ap (λ (x : Cursor). x.number) (is ∙ cursor-end file n e h);
        good-is = (header_is _ file b.1.header_is b.1.whole).good-is ∙ sym (good-begun file e);
      }))
      (λ e.
      let all = unbegun-is e in
      record {
        count = ap length (rows-unbegun file e) ∙ sym (ap (λ (x : Cursor). x.row) all);
        stop = ap (λ (x : Cursor). x.at) all ∙ rw (read-unbegun (length file) file e);
        number_is = ap (λ (x : Cursor). x.number) all ∙ rw (read-unbegun (length file) file e);
        good-is = ap (λ (x : Cursor). x.header.good) all ∙ rw (read-unbegun (length file) file e);
      })

module _ {file : List ℕ} {c : Cursor} {index : List ℕ} (w : At file c index) where
  pub stops : c.go ≡ false → Stops file c
  stops = cursor-stopped file c c.row w.is w.few

  pub there : c.go ≡ true → There file c
  there = goes-there file c c.row w.is

-- behind row n
pub onward-row : {file : List ℕ} {h : Header} {n at : ℕ} → Behind file h n at → n < length (rows_of file) → Behind file h (n + 1) (row_no (rows_of file) n).end
onward-row {file} {h} {n} w less =
    let e = (header_is h file w.header_is w.whole).whole in
    record { header_is = w.header_is; whole = w.whole; few = omega arith; place_is = row-end file e n less ∙ ap (place_after file) (sym (add-one n)) }

-- behind the row of a cursor
pub onward : {file : List ℕ} {c : Cursor} → There file c → Behind file c.header (c.row + 1) (c.at + c.layout.end)
onward w =
    record { header_is = w.behind.header_is; whole = w.behind.whole; few = omega (arith, w.turn.row); place_is = w.turn.place }

-- before row k, the last that is counted, from a cursor at an earlier one
pub onto : {file : List ℕ} {c : Cursor} {index : List ℕ} → At file c index → c.go ≡ true → (k : ℕ) → c.row < k → count_of index ≡ k + 1
    → Behind file c.header k (last_of index)
onto {file} {c} {index} w g k h n =
    let t = there w g in
    let last : count_of index - 1 ≡ k = omega arith in
    record {
      header_is = t.behind.header_is;
      whole = t.behind.whole;
      few = omega (arith, w.indexed.there);
      place_is = w.indexed.begins (omega arith) ∙ ap (place_after file) last;
    }
