-- Rows entered into a directory, one behind the other.
--     window-none window_more window-kept   none, one row more, and where it has no room
--     first_taken   an empty directory has room for a row
-- Assumes nothing.
use Prim.Native.Nat.{ℕ, ◌+◌, ◌≤◌, ◌<◌}
use mathlib.Core.Path.{◌≡◌, sym, ap, ◌∙◌}
use mathlib.Core.List.{List}
use native.Mathlib.Omega.{arith}
use lib.Dec.{ltb}
use lib.ListN.{length}
use borrow.Author.Tests.{ltb-true, ltb-false}
use Rattle.metafile.specs.Bytes.{part}
use Rattle.metafile.specs.Reading.{rows_of}
use Rattle.metafile.specs.Append.{row_no}
use Rattle.laws.proofs.First.{test}
use Rattle.directory.specs.Directory.{start_no, serial_no, Empty, Added}
use Rattle.directory.proofs.Laws.{none-held}
use Rattle.walk.specs.declared.answers.Header.{Header}
use Rattle.walk.specs.declared.known.Places.{Places}
use Rattle.walk.specs.Known.{RowPlaces}
use Rattle.relations_check.specs.Window.{WindowOf}

pub window-none : (file d : List ℕ) (from : ℕ) → from ≤ length (rows_of file) → Empty d → WindowOf file d from 0
window-none file d from h e =
    record {
      holds = none-held file d e;
      rows = omega arith;
      serials = λ j l. absurd (omega arith);
      starts = λ j l. absurd (omega arith);
    }

-- an empty directory has room for a row
pub first_taken : {file : List ℕ} {key start n : ℕ} {d : List ℕ} {r : ℕ} {d' : List ℕ} → Added file key start n d r d' → (n ≡ 0 → Empty d) → r ≡ n → 0 < n
first_taken {file} {key} {start} {n} a e z =
    test (ltb 0 n) (λ q. ltb-true 0 n q) (λ q. let none : n ≡ 0 = omega (arith, ltb-false 0 n q) in absurd (omega (arith, a.begins none (e none), z)))

module _ {file d : List ℕ} {from n : ℕ} (w : WindowOf file d from n) {key start r : ℕ} {d' : List ℕ} (a : Added file key start n d r d') where
  kept-serial : (j : ℕ) → j < n → serial_no file d' j ≡ (row_no (rows_of file) (from + j)).serial
  kept-serial j h = ap (λ (p : ℕ). part p 38 file) (a.kept j h).0 ∙ w.serials j h

  kept-start : (j : ℕ) → j < n → start_no d' j ≡ (row_no (rows_of file) (from + j)).place
  kept-start j h = (a.kept j h).1 ∙ w.starts j h

  pub window-kept : r ≡ n → WindowOf file d' from n
  window-kept e = record { holds = rw e at a.holds; rows = w.rows; serials = kept-serial; starts = kept-start }

  module _ (h : Header) (l : Places) (s : RowPlaces file h (from + n) start l) (k : key ≡ l.serial) (less : from + n < length (rows_of file)) (e : r ≡ n + 1) where
    -- row j of the window is one of those before, or the new one
    at_row : {A : Type 0} (j : ℕ) → j < n + 1 → (j < n → A) → (j ≡ n → A) → A
    at_row j h f g = test (ltb j n) (λ q. f (ltb-true j n q)) (λ q. g (omega (arith, ltb-false j n q)))

    pub window_more : WindowOf file d' from (n + 1)
    window_more =
        record {
          holds = rw e at a.holds;
          rows = omega (arith, less);
          serials = λ j b. at_row j b (kept-serial j) (λ q. rw q (ap (λ (p : ℕ). part p 38 file) ((a.new e).0 ∙ k) ∙ s.serial-is));
          starts = λ j b. at_row j b (kept-start j) (λ q. rw q ((a.new e).1 ∙ sym s.place_is));
        }
