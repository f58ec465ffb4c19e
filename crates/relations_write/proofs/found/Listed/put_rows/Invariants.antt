-- `relations_write::found::Listed::put_rows` meets its contract. The loop's invariant: the lines of the rows before row k, which begins at
-- `at`, are put, up to p. Assumes nothing.
use Prim.Native.Nat.{◌<◌}
use Rattle.metafile.specs.Below.{join_below}
use Rattle.metafile.specs.Relations.{lines_of_row}
use Rattle.walk.specs.Cursor.{Behind}
use Rattle.relations_write.specs.Counted.{Put}
use Rattle.relations_write.proofs.Lines.{lines_to}
use Rattle.relations_write.proofs.found.Listed.put_rows.Given as goal

abbrev pub invariant-loop-k : goal.invariant-loop-k
invariant-loop-k l =
    (0 < l.self.found.rows → Behind l.self.file.now l.h l.k l.at)
    × Put (join_below l.k (lines_of_row l.self.file.now)) (lines_to l.self.file.now l.k) l.from l.p l.initial.buffer l.buffer
