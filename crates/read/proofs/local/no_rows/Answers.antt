-- `read::local::no_rows` meets its contract. Assumes nothing.
use mathlib.Core.Path.{ap}
use lib.ListN.{replicate}
use Rattle.metafile.specs.declared.Row.{Row}
use Rattle.read.specs.Table.{table_rows}
use Rattle.read.proofs.local.no_rows.Goals as goal

pub returns : goal.returns
returns c = ap (λ (r : Row). replicate table_rows r) c.none.ensures
