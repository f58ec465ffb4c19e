-- The rows noted (specs/Noted), and the row with a serial number among them.
--     all_noted                         all rows of the file
--     compared with-found with-passed   the search for a serial number, row by row
-- Assumes nothing.
use Rattle.std.proofs.Common.{ℕ, ◌+◌, ◌-◌, ◌≤◌, ◌<◌, ◌≡◌, Bool, true, false, List, length, take, drop, eqb, sym, ap, ◌∙◌, arith, eqb-true, length-take-le, get_or-take}
use Rattle.std.proofs.Math.Seq.{take-take}
use Rattle.std.proofs.lemmas.Bool.{eqb-false}
use Rattle.metafile.specs.Bytes.{part, same}
use Rattle.metafile.specs.Fields.{same_serial}
use Rattle.metafile.specs.Reading.{rows_of}
use Rattle.metafile.specs.Append.{row_no}
use Rattle.metafile.specs.Calls.{row_with}
use Rattle.laws.proofs.First.{test}
use Rattle.chunk_laws.proofs.Serials.{file-fresh}
use Rattle.walk.proofs.Serials.{with-only, with-other}
use Rattle.ancestors.specs.declared.rows.NotedRow.{NotedRow}
use Rattle.ancestors.specs.Noted.{noted_no, Noted, AllNoted}

-- the first n places of the table
pub all_noted : {file : List ℕ} {n : ℕ} {rows : List NotedRow} → Noted file n rows → n ≡ length (rows_of file) → n ≤ 64 → AllNoted file (take n rows)
all_noted {file} {n} {rows} w count few =
    let long : length (take n rows) ≡ n = length-take-le n rows (omega (arith, w.long)) in
    record {
      count = long ∙ count;
      few = omega arith;
      each = λ i h.
          rw (get_or-take n rows i (record { place = 0; serial = 0; dependencies = 0; missing = 0 }) (omega arith))
          (w.each i (omega arith) (omega arith));
    }

-- the first 35 bytes at two places, as slices give them
pub compared : (file : List ℕ) (a b : ℕ)
    → same (take (a + 35 - a) (drop a file)) (take (b + 35 - b) (drop b file)) ≡ same_serial (part a 38 file) (part b 38 file)
unfolding same_serial
compared file a b =
    let first : a + 35 - a ≡ 35 = omega arith in
    let second : b + 35 - b ≡ 35 = omega arith in
    rw (first, second, take-take 35 38 (drop a file) (omega arith), take-take 35 38 (drop b file) (omega arith))

module _ {file : List ℕ} {rows : List NotedRow} (w : AllNoted file rows) (x : List ℕ) (i : ℕ) where
  module _ (less : i < length rows) (b : Bool) (is : b ≡ same_serial x (part (noted_no rows i).serial 38 file)) where
    same_row : b ≡ same_serial x (row_no (rows_of file) i).serial
    same_row = is ∙ ap (same_serial x) (w.each i less).serial-is

    inside : i < length (rows_of file)
    inside = omega (arith, w.count)

    -- it is row i's
    pub with-found : b ≡ true → i ≡ row_with x (rows_of file)
    with-found y = sym (with-only x (rows_of file) i inside (file-fresh file) (sym same_row ∙ y))

    -- it is another's
    pub with-passed : i ≤ row_with x (rows_of file) → b ≡ false → i + 1 ≤ row_with x (rows_of file)
    with-passed h y =
        let other = with-other x (rows_of file) i inside (sym same_row ∙ y) in
        test (eqb (row_with x (rows_of file)) i)
        (λ q. absurd (other (eqb-true _ _ q)))
        (λ q. let ne = eqb-false (row_with x (rows_of file)) i q in omega arith)
