-- `lines::write::put_lines` meets its contract. The loop's invariant: all lines are put once those left are put at the place
-- reached. Assumes nothing.
use Prim.Native.Nat.{◌+◌, ◌-◌}
use mathlib.Core.Path.{◌≡◌}
use lib.ListN.{length, drop}
use Rattle.metafile.specs.Lines.{lines_of, size, write}
use Rattle.metafile.specs.Answers.{placed}
use Rattle.table.specs.Codes.{lines_from}
use Rattle.lines.specs.Values.{chopped, values_size}
use Rattle.lines.proofs.write.put_lines.Given as goal

abbrev pub invariant-loop-i : goal.invariant-loop-i
invariant-loop-i l =
    let end = l.fn.first + l.fn.n in
    let whole = lines_from l.fn.first l.fn.n in
    record {
      wide : length l.values ≡ l.v + values_size (lines_from l.i (end - l.i));
      fits : l.p + size (lines_of (lines_from l.i (end - l.i))) ≡ l.fn.at + size (lines_of whole);
      left : placed l.fn.at (write (lines_of whole) (chopped whole l.values)) l.initial.buffer ≡ placed l.p (write (lines_of (lines_from l.i (end - l.i))) (chopped (lines_from l.i (end - l.i)) (drop l.v l.values))) l.buffer;
    }
