-- What the functions of this crate answer, by the definitions of the crate metafile: the file header, one step of the
-- reading ("Reading"), and a row by its serial number. Assumes nothing.
use Rattle.std.specs.Prelude.{ℕ, zero, suc, ◌+◌, false, cond, ◌&&◌, List, Option, Some, None, leb, ltb, length, drop}
use Rattle.std.specs.declared.result.Result.{Result}
use Rattle.std.specs.declared.result.Result.TheVariants.{Ok, Err}
use Rattle.metafile.specs.declared.Row.{Row}
use Rattle.metafile.specs.Bytes.{choose}
use Rattle.metafile.specs.Header.{is_llc, mark_length, mark_of, header_fault, header_end, header_good}
use Rattle.metafile.specs.Chunk.{closing_place}
use Rattle.metafile.specs.Reading.{reading, rows_of}
use Rattle.metafile.specs.Append.{row_no}
use Rattle.metafile.specs.Calls.{row_with}
use Rattle.chunk.specs.declared.parts.Layout.{Layout}
use Rattle.chunk.specs.Layout.{layout_of}
use Rattle.walk.specs.declared.answers.Header.{Header}
use Rattle.walk.specs.declared.answers.Placed.{Placed}

-- the file header: its first fault, or where it ends, the mark's length, the strategy, sum good or not
unfoldable pub header_of : List ℕ → Header
header_of file =
    choose (header_fault file)
    (record { number = 0; end = header_end file; mark = mark_length file; llc = is_llc file; good = header_good file })
    (λ n. record { number = n; end = 0; mark = 0; llc = false; good = false })

-- where the reading goes on behind i rows, the first of which would stand at p
unfoldable pub place_behind : ℕ → List Row → ℕ → ℕ
place_behind p rows zero = p
place_behind p rows (suc i) = (row_no rows i).end

-- where the reading goes on behind the first i rows of the file
unfoldable pub place_after : List ℕ → ℕ → ℕ
place_after file i = place_behind (header_end file) (rows_of file) i

-- the chunk at a place
unfoldable pub chunk_at : List ℕ → ℕ → Layout
chunk_at file p = layout_of (is_llc file) (mark_of file) (drop p file)

-- where the serial number of the chunk at p stands
unfoldable pub serial_at : List ℕ → ℕ → ℕ
serial_at file p = p + (closing_place (mark_of file) (drop p file) + length (mark_of file) + 20)

-- no chunk
unfoldable pub no_layout : Layout
no_layout =
    record { number = 0; header = 0; contents = 0; bytes = 0; end = 0; dependencies = 0; multichunk = false }

-- what stands behind i rows: the next row's chunk, or the number with which the reading stops
unfoldable pub step_of : List ℕ → ℕ → Result Layout ℕ
step_of file i =
    cond (ltb i (length (rows_of file)))
    (Ok (chunk_at file (place_after file i)))
    (Err (reading file).number)

-- the row with a serial number, and its place, where there is such a row
unfoldable pub numbered_of : List ℕ → List ℕ → Option Placed
numbered_of file x =
    cond (ltb (row_with x (rows_of file)) (length (rows_of file)))
    (Some (record { row = row_with x (rows_of file); place = (row_no (rows_of file) (row_with x (rows_of file))).place }))
    None

-- the same among the rows from i up to k; where there is none, where the last of them ends
unfoldable pub between_of : List ℕ → ℕ → ℕ → List ℕ → Result Placed ℕ
between_of file i k x =
    cond (leb i (row_with x (rows_of file)) && ltb (row_with x (rows_of file)) k)
    (Ok (record { row = row_with x (rows_of file); place = place_after file (row_with x (rows_of file)) }))
    (Err (place_after file k))
