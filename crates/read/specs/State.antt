-- What the call read answers ("Reading", "What a refused call gives"), and the rows one by one. Assumes nothing.
use Rattle.std.specs.Prelude.{ℕ, true, false, cond, List, ltb, length}
use Rattle.metafile.specs.declared.Row.{Row}
use Rattle.metafile.specs.declared.ReadAnswer.{ReadAnswer}
use Rattle.metafile.specs.Reading.{rows_of}
use Rattle.metafile.specs.Append.{no_row, row_no}
use Rattle.metafile.specs.Calls.{ReadOutcome}
use Rattle.walk.specs.declared.cursor.Cursor.{Cursor}
use Rattle.read.specs.declared.rows.Next.{Next}

-- the answer beside the table, as the call leaves it
unfoldable pub read_outcome : ReadAnswer → List Row → ReadOutcome
read_outcome answer table = record { answer = answer; table = table }

-- the reading ends at a cursor, with this number
unfoldable pub answer_of : Cursor → ℕ → ReadAnswer
answer_of c number = record { count = c.row; stop = c.at; good = c.header.good; number = number }

-- the row behind n rows, where there is one
unfoldable pub next_of : List ℕ → ℕ → Next
next_of file n =
    cond (ltb n (length (rows_of file))) (record { go = true; row = row_no (rows_of file) n }) (record { go = false; row = no_row })
