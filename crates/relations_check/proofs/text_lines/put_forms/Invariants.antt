-- `relations_check::text_lines::put_forms` meets its contract. The loop's invariant: the verdicts of the lines so far are
-- written. Assumes nothing.
use lib.ListN.{length}
use Rattle.metafile.specs.Relations.{split_on, verdicts_by}
use Rattle.relations_check.specs.Judged.{never}
use Rattle.relations_check.proofs.Lines.{Written}
use Rattle.relations_check.proofs.text_lines.put_forms.Given as goal

abbrev pub invariant-loop-i : goal.invariant-loop-i
invariant-loop-i l = record {
  can : (goal.iterator-loop-i).can_next l.i-iterator;
  ends : (goal.iterator-loop-i).is_finite l.i-iterator;
  written : Written (verdicts_by never (split_on 10 l.text)) l.initial.verdicts l.verdicts (length l.yielded);
}
