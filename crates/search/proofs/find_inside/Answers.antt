-- `search::find_inside` meets its contract. The loop's invariant: the mark does not begin before `p`, and `p` is inside the
-- text or at its end. The measure is what is left of the text. Assumes nothing.
use mathlib.Core.Path.{sym, ◌∙◌}
use native.Mathlib.Omega.{arith}
use Rattle.search.proofs.Laws.{inside-none, inside-begin, inside-single, inside-here, inside-next, inside-end}
use Rattle.search.proofs.find_inside.Goals as goal

pub returns-then-mark-eq0 : goal.returns-then-mark-eq0
returns-then-mark-eq0 c =
    let args = c.args in
    inside-none args.mark.now args.text.now args.tail.now c.if-mark-eq0.true

pub bounds-mark-0 : goal.bounds-mark-0
bounds-mark-0 c = omega arith

pub loop-p-init : goal.loop-p-init
loop-p-init c =
    let args = c.args in
    inside-begin args.mark.now args.text.now args.tail.now c.find_byte-p.result (omega arith) c.find_byte-p.ensures

pub returns-then-mark-eq1 : goal.returns-then-mark-eq1
returns-then-mark-eq1 c =
    let args = c.args in
    inside-single args.mark.now args.text.now args.tail.now c.find_byte-p.result c.if-mark-eq1.true c.find_byte-p.ensures

pub slice_bounds-begins_across-count : goal.slice_bounds-begins_across-count
slice_bounds-begins_across-count c = omega arith

pub returns-then-begins_across : goal.returns-then-begins_across
returns-then-begins_across c =
    let at = c in
    let args = at.args in
    inside-here args.mark.now args.text.now args.tail.now at.loop-p.p (omega arith) at.loop-p.invariant.1
    (sym c.begins_across.ensures ∙ c.if-begins_across.true)

pub overflow_add-p : goal.overflow_add-p
overflow_add-p c = omega arith

pub slice_bounds-find_byte-count : goal.slice_bounds-find_byte-count
slice_bounds-find_byte-count c = omega arith

pub loop-p-preserved : goal.loop-p-preserved
loop-p-preserved c =
    let at = c in
    let args = at.args in
    inside-next args.mark.now args.text.now args.tail.now at.loop-p.p c.find_byte-p-in-loop-p.result
    (omega arith) (omega arith) at.loop-p.invariant.1 (sym c.begins_across.ensures ∙ c.if-begins_across.false)
    c.find_byte-p-in-loop-p.ensures

pub overflow_add-p-in-loop-p : goal.overflow_add-p-in-loop-p
overflow_add-p-in-loop-p c = omega (arith, (loop-p-preserved c).0)

pub loop-p-smaller : goal.loop-p-smaller
loop-p-smaller c = omega arith

pub returns : goal.returns
returns c =
    let at = c in
    let args = at.args in
    inside-end args.mark.now args.text.now args.tail.now at.loop-p.p (omega arith) at.loop-p.invariant.1
