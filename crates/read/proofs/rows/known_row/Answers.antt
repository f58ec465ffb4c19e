-- `read::rows::known_row` meets its contract. Assumes nothing.
use mathlib.Core.Path.{ap, ◌∙◌}
use Rattle.metafile.specs.Reading.{rows_of}
use Rattle.metafile.specs.Append.{row_no}
use Rattle.read.proofs.Laws.{Known, known}
use Rattle.read.proofs.rows.known_row.Goals as goal
use Rattle.read.proofs.rows.known_row.Goals.{After-cursor_at-c}

here : (c : After-cursor_at-c) → Known c.args.file.now c.args.n c.cursor_at-c.result
here c = let k = c in known k.requires.behind k.requires.n_in_bounds c.cursor_at-c.ensures

pub row-requires : goal.row-requires
row-requires c = record { c_value = (here c).is; go_value = (here c).goes }

pub returns : goal.returns
returns c = c.row.ensures ∙ ap (row_no (rows_of _)) (here (goal.at.returns c).After-cursor_at-c).row_is
