-- `relation_line::judge::is_named` meets its contract. Assumes nothing.
use mathlib.Core.Path.{sym, ◌∙◌}
use native.Mathlib.Omega.{arith}
use borrow.Author.Tests.{not-true, not-false}
use Rattle.relation_line.proofs.Names.{named_other, named-short, named-alone, named-tab}
use mathlib.Core.Path.{ap}
use mathlib.Core.Bool.{not}
use Rattle.relation_line.proofs.judge.is_named.Goals as goal

pub returns-then-line-lt-NAME_END : goal.returns-then-line-lt-NAME_END
returns-then-line-lt-NAME_END c = named-short c.args.line.now c.if-line-lt-NAME_END.true

pub returns-then-not-same_bytes : goal.returns-then-not-same_bytes
returns-then-not-same_bytes c =
    let t = c in
    named_other t.args.line.now
    (sym (not-true t.same_bytes.result (ap not c.if-not-same_bytes.true)) ∙ t.same_bytes.ensures)

pub returns-then-line-eq-NAME_END : goal.returns-then-line-eq-NAME_END
returns-then-line-eq-NAME_END c =
    let t = c in
    named-alone t.args.line.now c.if-line-eq-NAME_END.true
    (sym (not-false t.same_bytes.result (ap not c.if-not-same_bytes.false)) ∙ t.same_bytes.ensures)

pub returns : goal.returns
returns c =
    let e = c in
    let t = e in
    named-tab t.args.line.now (omega arith)
    (sym (not-false t.same_bytes.result (ap not e.if-not-same_bytes.false)) ∙ t.same_bytes.ensures)
