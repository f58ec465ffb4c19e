-- A table of rows by value, and the reading that the call read left in it. Assumes nothing.
use Rattle.std.specs.Prelude.{ℕ, List, take}
use Rattle.metafile.specs.declared.Row.{Row}
use Rattle.metafile.specs.declared.ReadAnswer.{ReadAnswer}
use Rattle.metafile.specs.Reading.{Reading}

-- "A program reads a file of up to 65,536 bytes from standard input, with rows enough": a row takes at least 856
-- bytes ("Empty contents, LLC000: count 1, chunk 856 bytes"), and 65,536 bytes hold 76 times so many
abbrev pub table_rows : ℕ
table_rows = 76

-- the reading that read left in a table
unfoldable pub table_reading : List Row → ReadAnswer → Reading
table_reading rows a = record { rows = take a.count rows; stop = a.stop; good = a.good; number = a.number }
