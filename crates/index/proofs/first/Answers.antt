-- `index::first` meets its contract. Assumes nothing.
use mathlib.Core.Bool.{◌||◌}
use lib.Dec.{eqb}
use Rattle.std.proofs.Common.{rules, tests}
use Rattle.std.proofs.lemmas.Iterator.{YieldsList-from_slice}
use Rattle.std.proofs.lemmas.Iterator.Search.{position_from_yields_List}
use Rattle.index.proofs.Loops.{first-found}
use Rattle.index.proofs.first.Goals as goal

pub returns : goal.returns
returns c =
    let t = c.args.tag in
    let xs = c.args.entries.now in
    first-found t xs c.position.result
    (position_from_yields_List (λ x. eqb x 0 || eqb x t) _ _ _ c.position.ensures.ran (YieldsList-from_slice xs cc)
    (λ x b q k. search (rules, tests)))
