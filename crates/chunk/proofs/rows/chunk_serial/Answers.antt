-- `chunk::rows::chunk_serial` meets its contract. Assumes nothing.
use Prim.Native.Nat.{◌+◌}
use native.Mathlib.Omega.{arith}
use lib.ListN.{length-take, length-drop}
use Rattle.chunk.proofs.Layouts.{Placed, placed, serial-is}
use Rattle.chunk.proofs.rows.chunk_serial.Goals as goal
use Rattle.chunk.proofs.rows.chunk_serial.Goals.{Start}

-- what the layout says of the chunk's places
known : (c : Start) → Placed c.args.l c.args.mark.now c.args.s.now
known c = placed c.args.l c.args.mark.now c.args.s.now c.requires

pub overflow_add-at : goal.overflow_add-at
overflow_add-at c = let k = known (goal.at.overflow_add-at c).Start in omega arith

pub overflow_add-at-2 : goal.overflow_add-at-2
overflow_add-at-2 c = let k = known (goal.at.overflow_add-at-2 c).Start in omega arith

pub overflow_add-at-3 : goal.overflow_add-at-3
overflow_add-at-3 c = let k = known (goal.at.overflow_add-at-3 c).Start in omega arith

pub slice_bounds-serial_from-count : goal.slice_bounds-serial_from-count
slice_bounds-serial_from-count c = let k = known (goal.at.slice_bounds-serial_from-count c).Start in omega arith

pub slice_bounds-serial_from-start : goal.slice_bounds-serial_from-start
slice_bounds-serial_from-start c = let k = known (goal.at.slice_bounds-serial_from-start c).Start in omega arith

pub serial_from-requires : goal.serial_from-requires
serial_from-requires c =
    let k = known (goal.at.serial_from-requires c).Start in
    simp (length-take, length-drop) (omega arith)

pub returns : goal.returns
returns c =
    let a = c.args in
    serial-is a.mark.now a.s.now (a.l.contents + a.l.bytes) _ (known (goal.at.returns c).Start).closing-is c.serial_from.ensures
