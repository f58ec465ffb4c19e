-- `multi::gather::joined_length` meets its contract. Assumes nothing.
use native.Mathlib.Omega.{arith}
use Rattle.multi.proofs.MiniWalk.{multi-most, joined-goes, joined-room}
use Rattle.multi.proofs.gather.joined_length.Goals as goal

pub overflow_add-done : goal.overflow_add-done
overflow_add-done c =
    omega (
      arith,
      joined-room c.loop-data.invariant c.in-Some.ensures.steps,
      multi-most c.args.id.now c.args.r.now,
    )

pub loop-data-preserved : goal.loop-data-preserved
loop-data-preserved c = joined-goes c.loop-data.invariant c.in-Some.ensures.steps
