-- `relations_check::window::Rows::judge` meets its contract. The loop's invariant: the verdicts of the lines so far are those by
-- the rows of the window too. Assumes nothing.
use Prim.Native.Nat.{◌+◌}
use lib.ListN.{length}
use Rattle.metafile.specs.Relations.{split_on, verdicts_by}
use Rattle.relations_check.specs.Judged.{declared_below}
use Rattle.relations_check.proofs.Lines.{Written}
use Rattle.relations_check.proofs.window.Rows.judge.Given as goal

abbrev pub invariant-loop-i : goal.invariant-loop-i
invariant-loop-i l = record {
  can : (goal.iterator-loop-i).can_next l.i-iterator;
  ends : (goal.iterator-loop-i).is_finite l.i-iterator;
  written : Written (verdicts_by (declared_below l.self.file.now (l.self.window.from + l.self.window.entries)) (split_on 10 l.text)) l.initial.verdicts l.verdicts (length l.yielded);
}
