-- `chunk::header::head_fault` meets its contract. Assumes nothing.
use mathlib.Core.Path.{sym, ◌∙◌}
use Rattle.std.proofs.lemmas.Result.{err_from_is_err_and}
use Rattle.laws.proofs.Stages.{stop, go}
use Rattle.lines.proofs.Runs.{refused}
use Rattle.chunk.proofs.Headers.{head-split, head-begun}
use Rattle.chunk.proofs.header.head_fault.Goals as goal

pub returns-in_err-head_lines_fault : goal.returns-in_err-head_lines_fault
returns-in_err-head_lines_fault c =
    let p = err_from_is_err_and c.from_residual.result c.from_residual.ensures.1 in
    rw (p.1, p.2) (stop _ _ _ c.in_err-head_lines_fault.ensures (refused _) ∙ sym (head-split c.args.s.now))

pub dependency_count_fault-requires : goal.dependency_count_fault-requires
dependency_count_fault-requires c = head-begun _ (sym c.in_ok-head_lines_fault.ensures)

pub returns : goal.returns
returns c =
    go _ _ _ (sym c.in_ok-head_lines_fault.ensures) c.dependency_count_fault.ensures ∙ sym (head-split c.args.s.now)
