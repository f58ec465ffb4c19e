-- `relation_line::judge::is_parent` meets its contract. Assumes nothing.
use native.Mathlib.Omega.{arith}
use borrow.Author.Tests.{not-true, not-false}
use Rattle.relation_line.specs.Form.{Five}
use Rattle.relation_line.proofs.Forms.{form-five}
use Rattle.relation_line.proofs.Parents.{parent-not, parent_by}
use mathlib.Core.Path.{ap}
use mathlib.Core.Bool.{not}
use Rattle.relation_line.proofs.judge.is_parent.Goals as goal
use Rattle.relation_line.proofs.judge.is_parent.Goals.{Start}

five : (k : Start) → Five k.args.line.now
five k = form-five k.args.line.now k.requires.1

pub slice_bounds-asked-end : goal.slice_bounds-asked-end
slice_bounds-asked-end c = omega (arith, (five (goal.at.slice_bounds-asked-end c).Start).long)

pub returns-then-not-same_bytes : goal.returns-then-not-same_bytes
returns-then-not-same_bytes c =
    let t = c in
    let k = t in
    parent-not k.args.line.now k.args.s.now k.args.j (five (goal.at.returns-then-not-same_bytes c).Start) t.same_bytes.result t.same_bytes.ensures
    (not-true t.same_bytes.result (ap not c.if-not-same_bytes.true))

pub slice_bounds-same_bytes-end-2 : goal.slice_bounds-same_bytes-end-2
slice_bounds-same_bytes-end-2 c = omega (arith, (five (goal.at.slice_bounds-same_bytes-end-2 c).Start).long)

pub returns : goal.returns
returns c =
    let e = c in
    let t = e in
    let k = t in
    parent_by k.args.line.now k.args.s.now k.args.j (five (goal.at.returns c).Start) t.same_bytes.result t.same_bytes.ensures
    c.same_bytes-2.result (not-false t.same_bytes.result (ap not e.if-not-same_bytes.false)) c.same_bytes-2.ensures
