-- `lines::run::lines_fault` meets its contract. The loop's invariant: the run over all the lines is the run over those left,
-- from the place reached. Assumes nothing.
use Prim.Native.Nat.{◌+◌, ◌-◌, ◌≤◌}
use mathlib.Core.Path.{◌≡◌}
use lib.ListN.{length, drop}
use Rattle.metafile.specs.Lines.{lines_of, run}
use Rattle.table.specs.Codes.{lines_from}
use Rattle.lines.proofs.run.lines_fault.Given as goal

abbrev pub invariant-loop-i : goal.invariant-loop-i
invariant-loop-i l =
    let end = l.fn.first + l.fn.n in
    record {
      fits : l.p ≤ length l.s;
      left : run (lines_of (lines_from l.fn.first l.fn.n)) (drop l.fn.at l.s) ≡ run (lines_of (lines_from l.i (end - l.i))) (drop l.p l.s);
    }
