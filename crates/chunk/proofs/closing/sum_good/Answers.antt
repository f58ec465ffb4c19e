-- `chunk::closing::sum_good` meets its contract. Assumes nothing.
use native.Mathlib.Omega.{arith}
use lib.ListN.{length-take}
use Rattle.chunk.proofs.Closings.{sum_is}
use Rattle.chunk.proofs.closing.sum_good.Goals as goal

pub overflow_add-digits : goal.overflow_add-digits
overflow_add-digits c = omega arith

pub overflow_add-digits-2 : goal.overflow_add-digits-2
overflow_add-digits-2 c = omega arith

pub count_at-requires : goal.count_at-requires
count_at-requires c = omega arith

pub slice_bounds-word_sum-end : goal.slice_bounds-word_sum-end
slice_bounds-word_sum-end c = simp length-take (omega arith)

pub returns : goal.returns
returns c =
    let a = c.args in
    sum_is a.mark.now a.s.now a.at _ _ c.count_at.ensures c.word_sum.ensures
