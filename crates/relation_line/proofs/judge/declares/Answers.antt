-- `relation_line::judge::declares` meets its contract. Assumes nothing.
use mathlib.Core.Path.{refl, sym, ◌∙◌}
use native.Mathlib.Omega.{arith}
use borrow.Author.Rules.{rules}
use borrow.Author.Tests.{tests}
use Rattle.std.proofs.lemmas.Iterator.{YieldsList-from_range}
use Rattle.std.proofs.lemmas.Iterator.Search.{any_from_yields_List}
use Rattle.metafile.specs.Relations.{split_on, is_parent_of}
use Rattle.relation_line.specs.Form.{Five}
use Rattle.relation_line.proofs.Forms.{form-five}
use Rattle.relation_line.proofs.Parents.{declares-not, declares-is}
use Rattle.relation_line.proofs.Ranges.{any-range}
use Rattle.relation_line.proofs.judge.declares.Goals as goal
use Rattle.relation_line.proofs.judge.declares.Goals.{Start}

five : (k : Start) → Five k.args.line.now
five k = form-five k.args.line.now k.requires.line_value

pub slice_bounds-child-end : goal.slice_bounds-child-end
slice_bounds-child-end c = omega (arith, (five (goal.at.slice_bounds-child-end c).Start).long)

pub returns-then-same_bytes : goal.returns-then-same_bytes
returns-then-same_bytes c =
    let fields = split_on 9 c.args.line.now in
    let any =
    any_from_yields_List (is_parent_of fields c.args.s.now) _ _ c.any.result c.any.ensures.ran
    (YieldsList-from_range 0 c.args.n c.args.n refl (omega arith))
    (λ x b q k. search (rules, tests)) in
    any
    ∙ any-range (is_parent_of fields c.args.s.now) c.args.n
    ∙ sym (declares-is c.args.line.now c.args.s.now c.args.n (five (goal.at.returns-then-same_bytes c).Start) c.same_bytes.result c.same_bytes.ensures c.if-same_bytes.true)

pub returns-else-same_bytes : goal.returns-else-same_bytes
returns-else-same_bytes c =
    c.if-same_bytes.false
    ∙ declares-not c.args.line.now c.args.s.now c.args.n (five (goal.at.returns-else-same_bytes c).Start) c.same_bytes.result c.same_bytes.ensures c.if-same_bytes.false
