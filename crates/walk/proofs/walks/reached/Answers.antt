-- `walk::walks::reached` meets its contract. Assumes nothing.
use mathlib.Core.Path.{refl, sym, ◌∙◌}
use Rattle.walk.proofs.Index.{indexed-more, index-long}
use Rattle.walk.proofs.Cursors.{There, there, stops}
use Rattle.walk.proofs.Named.{named-13, named-row}
use native.Mathlib.Omega.{arith}
use Rattle.walk.proofs.walks.reached.Goals as goal
use Rattle.walk.proofs.walks.reached.Goals.{In-loop-c}

-- the row of the cursor
here : (c : In-loop-c) → There c.args.file.now c.loop-c.c
here c = there c.loop-c.invariant.0 c.loop-c-test.true

pub loop-c-init : goal.loop-c-init
loop-c-init c = (c.requires.at, c.requires.row_le_k)

pub shape_of-index-then-c-k : goal.shape_of-index-then-c-k
shape_of-index-then-c-k c = index-long c.loop-c.invariant.0.indexed ∙ sym (index-long c.requires.at.indexed)

pub returns-then-c-k-clause-named : goal.returns-then-c-k-clause-named
returns-then-c-k-clause-named c =
    named-row _ _ c.requires.file_len_bound (omega (arith, (here (goal.at.returns-then-c-k-clause-named c).In-loop-c).turn.row, c.if-c-k.true)) c.loop-c.invariant.0.is c.if-c-k.true

pub returns-then-c-k-clause-goes : goal.returns-then-c-k-clause-goes
returns-then-c-k-clause-goes c = c.loop-c-test.true

pub returns-then-c-k-clause-indexed : goal.returns-then-c-k-clause-indexed
returns-then-c-k-clause-indexed c = indexed-more c.loop-c.invariant.0.indexed (omega (arith, c.if-c-k.true))

pub toward-c-requires : goal.toward-c-requires
toward-c-requires c =
    record { at = c.loop-c.invariant.0; go_value = c.loop-c-test.true; row_lt_k = omega (arith, c.loop-c.invariant.1, c.if-c-k.false) }

pub loop-c-smaller : goal.loop-c-smaller
loop-c-smaller c = omega (arith, (here (goal.at.loop-c-smaller c).In-loop-c).turn.row, c.toward-c.ensures.1)

pub loop-c-preserved : goal.loop-c-preserved
loop-c-preserved c = (c.toward-c.ensures.0, c.toward-c.ensures.2)

pub shape_of-index : goal.shape_of-index
shape_of-index c = index-long c.loop-c.invariant.0.indexed ∙ sym (index-long c.requires.at.indexed)

pub returns-clause-named : goal.returns-clause-named
returns-clause-named c =
    let s = stops c.loop-c.invariant.0 c.loop-c-test.false in
    named-13 _ _ c.requires.file_len_bound (omega (arith, s.count, c.loop-c.invariant.1)) refl

pub returns-clause-indexed : goal.returns-clause-indexed
returns-clause-indexed c = indexed-more c.loop-c.invariant.0.indexed (omega (arith, c.loop-c.invariant.1))
