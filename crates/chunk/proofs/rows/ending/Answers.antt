-- `chunk::rows::ending` meets its contract. Assumes nothing.
use native.Mathlib.Omega.{arith}
use Rattle.chunk.proofs.Layouts.{placed, line-inside, nothing_read, ending-minis, ending-found, ending-counted}
use Rattle.chunk.proofs.rows.ending.Goals as goal

pub returns-then-l : goal.returns-then-l
returns-then-l c = ending-minis _ _ (placed _ _ _ c.requires).multi-is c.if-l.true

pub overflow_add-at : goal.overflow_add-at
overflow_add-at c = omega (arith, line-inside _ _ _ (placed _ _ _ c.requires))

pub overflow_add-at-2 : goal.overflow_add-at-2
overflow_add-at-2 c = omega (arith, line-inside _ _ _ (placed _ _ _ c.requires))

pub slice_bounds-counts_nothing-end : goal.slice_bounds-counts_nothing-end
slice_bounds-counts_nothing-end c = omega (arith, line-inside _ _ _ (placed _ _ _ c.requires))

pub returns-then-counts_nothing : goal.returns-then-counts_nothing
returns-then-counts_nothing c =
    let k = placed _ _ _ c.requires in
    ending-found _ _ k.multi-is c.if-l.false _ (nothing_read _ _ _ k _ c.counts_nothing.ensures) c.if-counts_nothing.true

pub returns : goal.returns
returns c =
    let k = placed _ _ _ c.requires in
    ending-counted _ _ k.multi-is c.if-l.false _ (nothing_read _ _ _ k _ c.counts_nothing.ensures) c.if-counts_nothing.false
