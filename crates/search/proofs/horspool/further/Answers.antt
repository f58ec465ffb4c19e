-- `search::horspool::further` meets its contract. Assumes nothing.
use mathlib.Core.List.{[], ◌∷◌}
use native.Mathlib.Omega.{arith}
use lib.ListN.{get_or}
use Rattle.search.proofs.Laws.{part-within}
use Rattle.search.proofs.Shifts.{further-one, further-on, further-not}
use Rattle.search.proofs.horspool.further.Goals as goal

pub overflow_add-result : goal.overflow_add-result
overflow_add-result c =
    let args = c.args in
    omega (arith, part-within (get_or args.mark.now 0 0 ∷ []) args.s.now 1 c.find_byte.result (omega arith) c.find_byte.ensures)

pub returns-then-a-eq1 : goal.returns-then-a-eq1
returns-then-a-eq1 c =
    let test = c in
    let args = test.args in
    further-one args.mark.now args.s.now args.a c.find_byte.result test.if-a-eq1.true c.find_byte.ensures

pub overflow_add-result-then-a-mark : goal.overflow_add-result-then-a-mark
overflow_add-result-then-a-mark c =
    let args = c.args in
    omega (arith, part-within (get_or args.mark.now 0 0 ∷ []) args.s.now args.a c.find_byte-then-a-mark.result (omega arith) c.find_byte-then-a-mark.ensures)

pub returns-then-a-mark : goal.returns-then-a-mark
returns-then-a-mark c =
    let test = c in
    let args = test.args in
    further-on args.mark.now args.s.now args.a c.find_byte-then-a-mark.result test.if-a-mark.true c.find_byte-then-a-mark.ensures

pub returns : goal.returns
returns c =
    let args = c.args in
    further-not args.mark.now args.s.now args.a c.if-a-mark.false
