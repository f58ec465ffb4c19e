-- `search::find_byte` meets its contract. Assumes nothing.
use Rattle.std.proofs.Common.{[], ◌∷◌, arith}
use Rattle.search.proofs.Laws.{byte-near, byte-far, part-within}
use Rattle.search.proofs.find_byte.Goals as goal

pub returns-then-i-n : goal.returns-then-i-n
returns-then-i-n c =
    byte-near c.args.b c.args.s.now c.min-n.result c.find_single-i.result (omega arith) c.find_single-i.ensures (omega arith)

pub overflow_add-result : goal.overflow_add-result
overflow_add-result c = omega (arith, part-within (c.args.b ∷ []) c.args.s.now c.min-n.result c.find_far.result (omega arith) c.find_far.ensures)

pub returns : goal.returns
returns c =
    byte-far c.args.b c.args.s.now c.min-n.result c.find_single-i.result c.find_far.result (omega arith)
    c.find_single-i.ensures (omega arith) c.find_far.ensures
