-- `walk::earlier::leave` meets its contract. Assumes nothing.
use Prim.Native.Nat.{◌+◌}
use mathlib.Core.Path.{sym}
use lib.ListN.{length-set}
use native.Mathlib.Omega.{arith}
use Rattle.index.proofs.Laws.{sized}
use Rattle.walk.proofs.Sources.{whole}
use Rattle.walk.proofs.Index.{indexed-left}
use Rattle.walk.proofs.Ahead.{serial-given, row-is-new}
use Rattle.walk.proofs.earlier.leave.Goals as goal

pub overflow_cast-index : goal.overflow_cast-index
overflow_cast-index c = omega (arith, c.rows_ahead-ahead.ensures.1)

pub bounds-index-0 : goal.bounds-index-0
bounds-index-0 c = omega (arith, c.rows_ahead-ahead.ensures.3, sized)

pub overflow_cast-index-2 : goal.overflow_cast-index-2
overflow_cast-index-2 c = omega (arith, c.rows_ahead-ahead.ensures.2)

pub bounds-index-1 : goal.bounds-index-1
bounds-index-1 c = simp length-set (omega (arith, c.rows_ahead-ahead.ensures.3, sized))

pub bounds-index-197125 : goal.bounds-index-197125
bounds-index-197125 c = simp length-set (omega (arith, c.rows_ahead-ahead.ensures.3, sized))

pub returns-then-here-ahead : goal.returns-then-here-ahead
returns-then-here-ahead c =
    let p = c.args.here in
    let e = c.rows_ahead-ahead.ensures in
    record {
      known = sym (row-is-new _ (whole p.source) p.row p.at c.args.place (omega (arith, e.0.there, c.if-here-ahead.true)) p.at_is c.requires.place_value);
      indexed = indexed-left _ _ _ (p.row + 1) c.rows_ahead-ahead.new.words e.3 e.0;
    }

pub returns : goal.returns
returns c =
    let e = c.rows_ahead-ahead.ensures in
    record {
      known = rw (c.serial_from.ensures, serial-given c.args.here.source.file.now c.args.place) at c.rescanned.ensures;
      indexed = indexed-left _ _ _ (c.args.here.row + 1) c.rows_ahead-ahead.new.words e.3 e.0;
    }
