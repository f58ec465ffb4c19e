-- `walk::cursor::toward` meets its contract. Assumes nothing.
use native.Mathlib.Omega.{arith}
use Rattle.walk.proofs.Index.{indexed-more, index-long}
use Rattle.walk.proofs.Cursors.{onto}
use Rattle.walk.proofs.cursor.toward.Goals as goal

pub bounds-index-0 : goal.bounds-index-0
bounds-index-0 c = omega (arith, index-long c.requires.at.indexed)

pub overflow_cast-n : goal.overflow_cast-n
overflow_cast-n c = omega (arith, c.slice_known-2-1.given 0)

pub bounds-index-1 : goal.bounds-index-1
bounds-index-1 c = omega (arith, index-long c.requires.at.indexed)

pub overflow_cast-at : goal.overflow_cast-at
overflow_cast-at c = omega (arith, c.slice_known-then-n-k-eq1-1.given 1)

pub behind-requires : goal.behind-requires
behind-requires c =
    let t = c in
    let k = t in record { behind = onto k.requires.at k.requires.go_value k.args.k k.requires.row_lt_k (omega (arith, t.if-k-n.true, t.if-n-k-eq1.true)); indexed = indexed-more k.requires.at.indexed (omega (arith, k.requires.row_lt_k)) }
