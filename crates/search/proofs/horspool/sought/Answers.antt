-- `search::horspool::sought` meets its contract. The loop's invariant: the mark does not begin before `place`, and what was
-- counted is the count up to there, at most one a byte. The measure is what is left of the bytes. Assumes nothing.
use native.Mathlib.Omega.{arith}
use Rattle.search.proofs.Laws.{passed_none, part_length}
use Rattle.search.proofs.Shifts.{sought-here, sought-next, sought-end}
use Rattle.search.proofs.horspool.sought.Goals as goal

pub loop-place-init : goal.loop-place-init
loop-place-init c =
    let args = c.args in
    (omega arith, omega arith, passed_none args.mark.now args.s.now, omega arith)

pub step-on-requires : goal.step-on-requires
step-on-requires c =
    let at = c in
    let args = at.args in record { in_bounds = (omega arith, omega (arith, part_length args.s.now at.loop-place.place)); table_value = at.shifts-table.ensures }

pub returns-then-on-eq0 : goal.returns-then-on-eq0
returns-then-on-eq0 c =
    let stepped = c in
    let at = stepped in
    let args = at.args in
    sought-here args.mark.now args.s.now at.loop-place.place at.loop-place.tried stepped.step-on.result (omega arith) (omega arith) (omega arith)
    stepped.step-on.ensures c.if-on-eq0.true at.loop-place.invariant.2 at.loop-place.invariant.3

pub loop-place-preserved : goal.loop-place-preserved
loop-place-preserved c =
    let stepped = c in
    let at = stepped in
    let args = at.args in
    sought-next args.mark.now args.s.now at.loop-place.place at.loop-place.tried stepped.step-on.result (omega arith) (omega arith) (omega arith)
    (omega arith) stepped.step-on.ensures c.if-on-eq0.false at.loop-place.invariant.2 at.loop-place.invariant.3

pub overflow_add-place : goal.overflow_add-place
overflow_add-place c = omega (arith, (loop-place-preserved c).0)

pub loop-place-smaller : goal.loop-place-smaller
loop-place-smaller c = omega (arith, (loop-place-preserved c).0)

pub returns : goal.returns
returns c =
    let at = c in
    let args = at.args in
    sought-end args.mark.now args.s.now at.loop-place.place at.loop-place.tried (omega arith) (omega arith) at.loop-place.invariant.2 at.loop-place.invariant.3
