-- `multi::minis::minis_part` meets its contract. The loop: the mini-chunks from the start on have the
-- faults and the end of those left. Assumes nothing.
use mathlib.Core.Path.{sym, ◌∙◌}
use native.Mathlib.Omega.{arith}
use Rattle.std.proofs.lemmas.Result.{err_from_is_err_and}
use Rattle.lines.proofs.Runs.{refused}
use Rattle.multi.proofs.MiniWalk.{walk_begins, walk-stops, this-fits, walk-next, walk-faults, walk_ends}
use Rattle.multi.proofs.Contents.{part-stopped, part-taken}
use Rattle.multi.proofs.minis.minis_part.Goals as goal

pub loop-start-init : goal.loop-start-init
loop-start-init c = walk_begins c.args.ids.now c.args.r.now c.args.start (omega arith)

pub is_mini-requires : goal.is_mini-requires
is_mini-requires c = c.loop-start.invariant.inside

pub mini_fault-requires : goal.mini_fault-requires
mini_fault-requires c =
    record {
      at_in_bounds = c.loop-start.invariant.inside;
      r_value = sym c.is_mini.ensures ∙ c.loop-start-test.true;
      text_ids = c.requires.text_ids;
    }

pub returns-in_err-mini_fault : goal.returns-in_err-mini_fault
returns-in_err-mini_fault c =
    let p = err_from_is_err_and c.from_residual.result c.from_residual.ensures.1 in
    rw (p.1, p.2) (part-stopped _ _ _ (walk-stops c.loop-start.invariant _ (sym c.is_mini.ensures ∙ c.loop-start-test.true) c.in_err-mini_fault.ensures (refused _)))

pub mini_bytes-at-requires : goal.mini_bytes-at-requires
mini_bytes-at-requires c = this-fits c.loop-start.invariant (sym c.in_ok-mini_fault.ensures)

pub overflow_add-at : goal.overflow_add-at
overflow_add-at c =
    omega (arith, this-fits c.loop-start.invariant (sym c.in_ok-mini_fault.ensures), c.mini_bytes-at.ensures)

pub loop-start-smaller : goal.loop-start-smaller
loop-start-smaller c =
    omega (arith, this-fits c.loop-start.invariant (sym c.in_ok-mini_fault.ensures), c.mini_bytes-at.ensures)

pub loop-start-preserved : goal.loop-start-preserved
loop-start-preserved c =
    rw c.mini_bytes-at.ensures
    (walk-next c.loop-start.invariant (sym c.is_mini.ensures ∙ c.loop-start-test.true) (sym c.in_ok-mini_fault.ensures))

pub returns : goal.returns
returns c =
    part-taken _ _ _ (walk-faults c.loop-start.invariant (sym c.is_mini.ensures ∙ c.loop-start-test.false))
    (walk_ends c.loop-start.invariant (sym c.is_mini.ensures ∙ c.loop-start-test.false))
