-- `ancestors::lists::missing` meets its contract. Assumes nothing.
use Rattle.std.proofs.Common.{◌≡◌, ◌+◌, cond, refl, ap, ◌∙◌, arith, length}
use Rattle.std.proofs.lemmas.List.{length_push}
use Rattle.std.proofs.lemmas.Slice.Zip.{zip_turn, zip_end}
use Rattle.metafile.specs.Below.{sum_below}
use Rattle.ancestors.specs.Lists.{marked_sum}
use Rattle.ancestors.proofs.Marked.{marked-next, marked-most}
use Rattle.ancestors.proofs.lists.missing.Goals as goal
use Rattle.ancestors.proofs.lists.missing.Goals.{After-eq}

pub loop-mark-init : goal.loop-mark-init
unfolding marked_sum sum_below
loop-mark-init c = refl

-- a mark and its row
next : (c : After-eq) → marked_sum c.args.marks.now c.args.rows.now (length c.loop-mark.yielded + 1)
    ≡ marked_sum c.args.marks.now c.args.rows.now (length c.loop-mark.yielded) + cond c.eq.result c.in-Some.row.now.missing 0
next c =
    let t = zip_turn c.args.marks.now c.args.rows.now c.loop-mark.yielded c.into_iter-mark-iterator.result c.loop-mark.mark-iterator c.next.new.self c.next.result (cc) (cc) c.loop-mark.yielded_by _ c.in-Some.is c.next.ensures.steps in
    marked-next c.args.marks.now c.args.rows.now (length c.loop-mark.yielded) c.eq.result c.in-Some.mark.now c.in-Some.row.now c.eq.ensures (t.2 _) (t.3 _)

pub overflow_add-sum : goal.overflow_add-sum
overflow_add-sum c =
    let t = zip_turn c.args.marks.now c.args.rows.now c.loop-mark.yielded c.into_iter-mark-iterator.result c.loop-mark.mark-iterator c.next.new.self c.next.result (cc) (cc) c.loop-mark.yielded_by _ c.in-Some.is c.next.ensures.steps in
    let most = marked-most c.args.marks.now c.args.rows.now c.requires.small (length c.loop-mark.yielded + 1) (omega arith) in
    omega (arith, c.loop-mark.invariant, rw c.if-eq.true at (next (goal.at.overflow_add-sum c).After-eq), most)

pub loop-mark-preserved-then-eq : goal.loop-mark-preserved-then-eq
loop-mark-preserved-then-eq c =
    rw (length_push c.loop-mark.yielded (c.in-Some.mark, c.in-Some.row))
    (omega (arith, c.loop-mark.invariant, rw c.if-eq.true at (next (goal.at.loop-mark-preserved-then-eq c).After-eq)))

pub loop-mark-preserved : goal.loop-mark-preserved
loop-mark-preserved c =
    rw (length_push c.loop-mark.yielded (c.in-Some.mark, c.in-Some.row))
    (omega (arith, c.loop-mark.invariant, rw c.if-eq.false at (next (goal.at.loop-mark-preserved c).After-eq)))

pub returns : goal.returns
returns c =
    let t = zip_end c.args.marks.now c.args.rows.now c.loop-mark.yielded c.into_iter-mark-iterator.result c.loop-mark.mark-iterator c.next.new.self c.next.result (cc) (cc) c.loop-mark.yielded_by c.in-None.is c.next.ensures.steps in
    let all : length c.loop-mark.yielded ≡ length c.args.marks.now = omega arith in
    c.loop-mark.invariant ∙ ap (marked_sum c.args.marks.now c.args.rows.now) all
