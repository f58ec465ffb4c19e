-- `walk::earlier::rescanned` meets its contract. Assumes nothing.
use mathlib.Core.Path.{◌∙◌}
use native.Mathlib.Omega.{arith}
use Rattle.walk.proofs.Sources.{at_first}
use Rattle.walk.proofs.Loops.{between_known}
use Rattle.walk.proofs.earlier.rescanned.Goals as goal

pub row_between-requires : goal.row_between-requires
row_between-requires c = record { i_le_k = omega arith; k_in_bounds = c.requires.i_in_bounds; place_value = at_first c.args.source }

pub returns : goal.returns
returns c = c.is_ok.ensures.value ∙ between_known c.args.serial _ c.args.i c.requires.i_in_bounds _ c.row_between.ensures
