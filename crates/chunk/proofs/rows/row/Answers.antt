-- `chunk::rows::row` meets its contract. Assumes nothing.
use mathlib.Core.Path.{◌∙◌}
use native.Mathlib.Omega.{arith}
use mir.Facts.{to_z-of_z}
use mir.Syntax.{w64}
use Rattle.chunk.proofs.Layouts.{Placed, placed, row_is}
use Rattle.chunk.proofs.rows.row.Goals as goal
use Rattle.chunk.proofs.rows.row.Goals.{Start}

-- what the layout says of the chunk's places
known : (c : Start) → Placed c.args.l c.args.mark.now c.args.s.now
known c = placed c.args.l c.args.mark.now c.args.s.now c.requires.chunk

pub overflow_add-contents : goal.overflow_add-contents
overflow_add-contents c = let k = known (goal.at.overflow_add-contents c).Start in omega arith

pub overflow_add-end : goal.overflow_add-end
overflow_add-end c = let k = known (goal.at.overflow_add-end c).Start in omega arith

pub overflow_add-closing : goal.overflow_add-closing
overflow_add-closing c = let k = known (goal.at.overflow_add-closing c).Start in omega arith

pub offset-requires : goal.offset-requires
offset-requires c = (known (goal.at.offset-requires c).Start).in_head

pub sum_good-requires : goal.sum_good-requires
sum_good-requires c = let k = known (goal.at.sum_good-requires c).Start in omega arith

pub returns : goal.returns
returns c =
    let a = c.args in
    let k = known (goal.at.returns c).Start in
    row_is a.mark.now a.s.now a.p a.l k _ _ _ _ c.chunk_serial.ensures
    (to_z-of_z {w = w64} (record { sfits = c.offset.type_inv }) ∙ c.offset.ensures) (rw k.closing-is at c.sum_good.ensures) c.ending.ensures
