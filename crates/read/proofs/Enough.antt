-- 76 rows are enough for 65,536 bytes, since a row takes 856: what read leaves in a table of so many is the reading with
-- rows enough, and number 10 doesn't come ("A program reads a file of up to 65,536 bytes .. with rows enough").
-- Rests on the laws of a file in chunk_laws. Assumes nothing.
use Prim.Native.Nat.{ℕ, ◌≤◌}
use mathlib.Core.Path.{◌≡◌, sym, ap, ◌∙◌}
use mathlib.Core.List.{List}
use native.Mathlib.Omega.{arith}
use lib.ListN.{length, take, replicate, length-take, length-replicate}
use lib.Seq.{take_at}
use Rattle.metafile.specs.declared.Row.{Row}
use Rattle.metafile.specs.declared.ReadAnswer.{ReadAnswer}
use Rattle.metafile.specs.Reading.{Reading, reading, rows_of}
use Rattle.metafile.specs.Append.{no_row}
use Rattle.metafile.specs.Calls.{ReadOutcome, read_answer, filled, read}
use Rattle.laws.proofs.Accepted.{limit-under}
use Rattle.chunk_laws.proofs.File.{file-few, file-reading}
use Rattle.read.specs.State.{read_outcome}
use Rattle.read.specs.Table.{table_rows, table_reading}

module _ (file : List ℕ) (rows : List Row) (a : ReadAnswer) (under : length file ≤ 65536) (is : read_outcome a rows ≡ read file (replicate table_rows no_row)) where
  few : length (rows_of file) ≤ table_rows
  few = omega (arith, file-few file)

  read_is : read file (replicate table_rows no_row) ≡ record { answer = read_answer (reading file); table = filled (reading file) (replicate table_rows no_row) }
  unfolding read
  read_is = rw (limit-under (length file) (omega arith), length-replicate table_rows no_row, file-reading table_rows file few)

  answer-is : a ≡ read_answer (reading file)
  unfolding read_outcome
  answer-is = ap (λ (o : ReadOutcome). o.answer) (is ∙ read_is)

  rows_are : rows ≡ filled (reading file) (replicate table_rows no_row)
  unfolding read_outcome
  rows_are = ap (λ (o : ReadOutcome). o.table) (is ∙ read_is)

  count-is : a.count ≡ length (reading file).rows
  unfolding read_answer
  count-is = ap (λ (x : ReadAnswer). x.count) answer-is

  pub count-few : a.count ≤ table_rows
  unfolding rows_of
  count-few = omega (arith, count-is, few)

  table-rows : take a.count rows ≡ (reading file).rows
  unfolding filled
  table-rows = rw rows_are (take_at (reading file).rows _ a.count (sym count-is))

  pub count-inside : a.count ≤ length rows
  count-inside = let h = simp length-take at (ap length table-rows) in omega (arith, h, count-is)

  joined : (rs : List Row) (r : Reading) → rs ≡ r.rows → a ≡ read_answer r → record { rows = rs; stop = a.stop; good = a.good; number = a.number } ≡ r
  unfolding read_answer
  joined rs r p q = rw (p, q)

  pub table_is : table_reading rows a ≡ reading file
  unfolding table_reading
  table_is = joined _ (reading file) table-rows answer-is
