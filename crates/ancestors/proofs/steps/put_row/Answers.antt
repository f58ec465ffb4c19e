-- `ancestors::steps::put_row` meets its contract. Assumes nothing.
use Rattle.std.proofs.Common.{◌∙◌, arith}
use Rattle.ancestors.proofs.Tabling.{tabling-none, tabling_row, tabling-missing, tabled, tabled-missing, parent_is}
use Rattle.ancestors.proofs.steps.put_row.Goals as goal
use Rattle.ancestors.proofs.steps.put_row.Goals.{in-Some, in-None}

pub loop-j-init : goal.loop-j-init
loop-j-init c = tabling-none c.requires.tabled c.requires.noted.few c.requires.row_in_bounds

pub loop-j-preserved : goal.loop-j-preserved
loop-j-preserved c =
    let p = c.requires in
    let parent = parent_is (p.noted.each c.args.row p.row_in_bounds) c.loop-j.j in
    elim c.match-row_with.branch [
      | in-Some w ↦
          rw (w.table-is, w.missing-is)
          (tabling_row c.loop-j.invariant _ (w.in-Some.ensures.1 ∙ parent) p.noted.count p.noted.few p.row_in_bounds w.in-Some.ensures.0)
      | in-None w ↦
          rw (w.table-is, w.missing-is) (tabling-missing c.loop-j.invariant p.noted.count (rw parent at w.in-None.ensures))
    ]

pub returns : goal.returns
returns c =
    let here = c.requires.noted.each c.args.row c.requires.row_in_bounds in
    (tabled-missing c.loop-j.invariant here (omega arith), tabled c.loop-j.invariant here (omega arith) c.requires.noted.count)
