-- `read::rows::next_row` meets its contract. Assumes nothing.
use borrow.Author.Tests.{not-true, not-false}
use Rattle.read.proofs.Laws.{next-indexed, next-none, next-some}
use Rattle.read.proofs.rows.next_row.Goals as goal

pub returns-then-not-c : goal.returns-then-not-c
returns-then-not-c c =
    let t = c in
    let w = t.behind-c.ensures in
    (next-none w (not-true _ t.if-not-c.true) c.none-none.ensures, next-indexed w)

pub row-row-requires : goal.row-row-requires
row-row-requires c = record { c_value = c.behind-c.ensures.0.is; go_value = not-false _ c.if-not-c.false }

pub returns : goal.returns
returns c =
    let e = c in
    let w = e.behind-c.ensures in
    (next-some w (not-false _ e.if-not-c.false) c.row-row.ensures, next-indexed w)
