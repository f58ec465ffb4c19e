-- `search::begins_across` meets its contract: a mark that ends in s, and one that goes on in the tail. Assumes nothing.
use Rattle.std.proofs.Common.{sym, ◌∙◌, arith}
use Rattle.laws.proofs.Lists.{starts-local}
use Rattle.search.proofs.Laws.{same-pointwise, starts-rest, starts-not}
use Rattle.search.proofs.begins_across.Goals as goal

pub returns-then-mark-n : goal.returns-then-mark-n
returns-then-mark-n c = c.begins.ensures ∙ sym (starts-local c.args.mark.now c.args.s.now c.args.tail.now (omega arith))

pub returns-then-eq : goal.returns-then-eq
returns-then-eq c =
    starts-rest c.args.mark.now c.args.s.now c.args.tail.now c.eq.result c.begins-then-eq.result (omega arith)
    (c.eq.ensures ∙ same-pointwise _ _) c.if-eq.true c.begins-then-eq.ensures

pub returns-else-eq : goal.returns-else-eq
returns-else-eq c =
    c.if-eq.false
    ∙ starts-not c.args.mark.now c.args.s.now c.args.tail.now c.eq.result (omega arith)
    (c.eq.ensures ∙ same-pointwise _ _) c.if-eq.false
