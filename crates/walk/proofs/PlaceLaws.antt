-- The rows once more, behind a reading that has gone through all of them (specs/Known).
--     ended    a cursor that stops: how many rows there are
--     row-inside row-whole   a row's chunk is known to be whole, inside the file
--     row-places   where the parts of a row's chunk stand
-- Assumes nothing.
use Prim.Native.Nat.{ℕ, suc, ◌+◌, ◌≤◌, ◌<◌}
use mathlib.Core.Bool.{false}
use mathlib.Core.Path.{◌≡◌, sym, ap, ◌∙◌}
use mathlib.Core.List.{List}
use native.Mathlib.Omega.{arith}
use lib.ListN.{length, drop}
use Rattle.metafile.specs.declared.Row.{Row}
use Rattle.metafile.specs.Header.{is_llc, mark_of, header_fault}
use Rattle.metafile.specs.Chunk.{chunk_fault, row_at}
use Rattle.metafile.specs.Reading.{rows_of}
use Rattle.metafile.specs.Append.{row_no}
use Rattle.laws.proofs.First.{choose-go}
use Rattle.chunk_laws.proofs.File.{header-cases, rows-unbegun}
use Rattle.chunk_laws.proofs.Places.{row-placed, placed-dependencies, placed-header, placed-contents}
use Rattle.chunk.specs.declared.parts.Layout.{Layout}
use Rattle.chunk.specs.Layout.{layout_of, parts_of, faulty}
use Rattle.walk.specs.declared.answers.Header.{Header}
use Rattle.walk.specs.declared.cursor.Cursor.{Cursor}
use Rattle.walk.specs.Walk.{place_after, chunk_at, serial_at}
use Rattle.walk.specs.Cursor.{Behind, At}
use Rattle.walk.specs.Known.{Ended, RowPlaces}
use Rattle.walk.proofs.Stages.{header_is}
use Rattle.walk.proofs.Steps.{row_is, row-place, row-end, row-unfaulted}
use Rattle.walk.proofs.Loops.{Turn, turn, place_inside, place-whole}
use Rattle.walk.proofs.Cursors.{first-behind, begun-behind, stops}
use Rattle.walk.proofs.Ahead.{row-serial-at}

pub ended : {file : List ℕ} {c : Cursor} {index : List ℕ} → At file c index → c.go ≡ false → Ended file c
ended {file} {c} w g =
    let s = stops w g in
    record {
      count = sym s.count;
      begun = λ some.
          header-cases file
          (λ e. let b = (begun-behind file c c.row w.is e w.few).1 in first-behind file c.header b.header_is b.whole)
          (λ e. absurd (omega (arith, s.count, ap length (rows-unbegun file e))));
    }

-- the chunk of a row is whole, inside the file
module _ {file : List ℕ} {h : Header} {n at : ℕ} (b : Behind file h n at) (less : n < length (rows_of file)) where
  pub row-inside : at ≤ length file
  row-inside = place_inside file (header_is h file b.header_is b.whole).whole n at b.few b.place_is

  pub row-whole : chunk_fault (is_llc file) (mark_of file) (drop at file) ≡ 0
  row-whole = place-whole file (header_is h file b.header_is b.whole).whole n at less b.place_is

module _ (file : List ℕ) (h : Header) (n at : ℕ) (b : Behind file h n at) (less : n < length (rows_of file)) where
  begun : header_fault file ≡ 0
  begun = (header_is h file b.header_is b.whole).whole

  module _ (l : Layout) (is : l ≡ chunk_at file at) where
    turned : Turn file n at l
    turned = turn file begun n at l less b.place_is is

    dependencies-are : l.dependencies ≡ (row_no (rows_of file) n).dependencies
    unfolding chunk_at layout_of parts_of row_at
    dependencies-are =
        let s = drop (place_after file n) file in
        ap (λ (x : Layout). x.dependencies) (is ∙ ap (chunk_at file) b.place_is ∙ choose-go (chunk_fault (is_llc file) (mark_of file) s) _ faulty (row-unfaulted file begun n less))
        ∙ sym (ap (λ (x : Row). x.dependencies) (row_is file begun n less))

    pub row-places : (q : ℕ) → q ≡ serial_at file at → q + 38 ≤ length file
        → RowPlaces file h n at (record { serial = q; dependencies = l.dependencies; end = at + l.end })
    row-places q e inside =
        let r : Row = row_no (rows_of file) n in
        let llc = is_llc file in
        let m = mark_of file in
        let w = row-placed file n less in
        let place : r.place ≡ at = row-place file begun n less ∙ sym b.place_is in
        let next : suc n ≡ n + 1 = omega arith in
        let ends : r.end ≡ at + l.end = row-end file begun n less ∙ ap (place_after file) next ∙ sym turned.place in
        record {
          place_is = place;
          dependencies-is = dependencies-are;
          dependencies-inside = omega (arith, place, dependencies-are, ends, placed-dependencies llc m file r w, placed-header llc m file r w, placed-contents llc m file r w);
          end-inside = turned.inside;
          serial-is = rw e (sym (row-serial-at file begun n at l less b.place_is is));
          serial-inside = inside;
          next = record { header_is = b.header_is; whole = b.whole; few = omega (arith, less); place_is = turned.place };
        }
