-- `lines::write::values_formed` meets its contract. The loop's invariant: all values are formed if those left are, from the
-- place reached. Assumes nothing.
use Prim.Native.Nat.{◌+◌, ◌-◌}
use mathlib.Core.Path.{◌≡◌}
use lib.ListN.{length, drop}
use Rattle.metafile.specs.Lines.{lines_of, formed}
use Rattle.table.specs.Codes.{lines_from}
use Rattle.lines.specs.Values.{chopped, values_size}
use Rattle.lines.proofs.write.values_formed.Given as goal

abbrev pub invariant-loop-i : goal.invariant-loop-i
invariant-loop-i l =
    let end = l.fn.first + l.fn.n in
    record {
      wide : length l.values ≡ l.v + values_size (lines_from l.i (end - l.i));
      left : formed (lines_of (lines_from l.fn.first l.fn.n)) (chopped (lines_from l.fn.first l.fn.n) l.values) ≡ formed (lines_of (lines_from l.i (end - l.i))) (chopped (lines_from l.i (end - l.i)) (drop l.v l.values));
    }
