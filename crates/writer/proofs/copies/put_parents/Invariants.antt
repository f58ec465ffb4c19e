-- The loop's invariant: the file is as it was, and what is left to put at `p` makes the buffer what it is to be.
-- Assumes nothing.
use Prim.Native.Nat.{◌+◌, ◌*◌}
use mathlib.Core.Path.{◌≡◌}
use lib.ListN.{length as size, take, drop}
use Rattle.metafile.specs.Answers.{placed}
use Rattle.writer.proofs.Rows.{parent_lines}
use Rattle.writer.proofs.copies.put_parents.Given as goal

abbrev pub invariant-loop-i : goal.invariant-loop-i
invariant-loop-i l =
    record {
      place : l.p ≡ l.at + 344 * l.i;
      long : size l.buffer ≡ size l.initial.buffer;
      kept : take l.length l.buffer ≡ take l.length l.initial.buffer;
      left : placed l.p (parent_lines (take l.length l.initial.buffer) (drop l.i l.parents)) l.buffer ≡ placed l.at (parent_lines (take l.length l.initial.buffer) l.parents) l.initial.buffer;
    }
