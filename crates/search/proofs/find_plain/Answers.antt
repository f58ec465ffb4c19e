-- `search::find_plain` meets its contract: a place inside the text, else what is found in the tail alone. Assumes nothing.
use native.Mathlib.Omega.{arith}
use Rattle.search.proofs.Laws.{inside_both}
use Rattle.search.proofs.find_plain.Goals as goal

pub returns-then-p-text : goal.returns-then-p-text
returns-then-p-text c = omega arith

pub overflow_add-result : goal.overflow_add-result
overflow_add-result c = omega arith

pub returns : goal.returns
returns c =
    let searched = c in
    let args = searched.args in
    inside_both args.mark.now args.text.now args.tail.now searched.find_inside-p.result c.find_inside.result
    searched.find_inside-p.ensures (omega arith) c.find_inside.ensures
