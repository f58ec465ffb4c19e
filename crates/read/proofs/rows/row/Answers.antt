-- `read::rows::row` meets its contract. Assumes nothing.
use mathlib.Core.Path.{◌∙◌}
use native.Mathlib.Omega.{arith}
use Rattle.walk.proofs.Cursors.{There, goes-there}
use Rattle.read.proofs.Laws.{mark-end, part-long, row-whole, row-at}
use Rattle.read.proofs.rows.row.Goals as goal
use Rattle.read.proofs.rows.row.Goals.{Start}

here : (c : Start) → There c.args.file.now c.args.c
here c = goes-there _ c.args.c _ c.requires.c_value c.requires.go_value

pub overflow_add-end : goal.overflow_add-end
overflow_add-end c = omega (arith, mark-end (here (goal.at.overflow_add-end c).Start))

pub slice_bounds-row-count : goal.slice_bounds-row-count
slice_bounds-row-count c = omega (arith, (here (goal.at.slice_bounds-row-count c).Start).turn.inside)

pub slice_bounds-row-start : goal.slice_bounds-row-start
slice_bounds-row-start c = omega (arith, (here (goal.at.slice_bounds-row-start c).Start).turn.inside)

pub slice_bounds-row-end-2 : goal.slice_bounds-row-end-2
slice_bounds-row-end-2 c = omega (arith, mark-end (here (goal.at.slice_bounds-row-end-2 c).Start))

pub row-requires : goal.row-requires
row-requires c =
    let w = here (goal.at.row-requires c).Start in record { chunk = row-whole w; place = omega (arith, part-long w) }

pub returns : goal.returns
returns c = c.row.ensures ∙ row-at (here (goal.at.returns c).Start)
