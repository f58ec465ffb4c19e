-- `table::put_label` meets its contract. Assumes nothing.
use Prim.Native.Nat.{◌+◌, ◌≤◌}
use native.Mathlib.Omega.{arith}
use lib.ListN.{length, length-take, length-drop}
use Rattle.std.proofs.Common.{rules}
use Rattle.table.proofs.Labels.{label-room, label-taken, put-fits, put-place, label-put}
use Rattle.table.proofs.put_label.Goals as goal

pub slice_bounds-copy_from_slice-end : goal.slice_bounds-copy_from_slice-end
slice_bounds-copy_from_slice-end c =
    let fits : c.args.at + c.line_at-line.result.long ≤ length c.args.buffer.now = put-fits c.args.i (omega arith) c.line_at-line.result c.line_at-line.ensures c.args.buffer.now c.args.at (omega arith) in
    search rules

pub slice_bounds-label-end : goal.slice_bounds-label-end
slice_bounds-label-end c = label-room c.args.i (omega arith) c.line_at-line.result c.line_at-line.ensures

pub slice_bounds-copy_from_slice-end-2 : goal.slice_bounds-copy_from_slice-end-2
slice_bounds-copy_from_slice-end-2 c = label-taken c.args.i (omega arith) c.line_at-line.result c.line_at-line.ensures

pub copy_from_slice-requires : goal.copy_from_slice-requires
copy_from_slice-requires c =
    let fits : c.args.at + c.line_at-line.result.long ≤ length c.args.buffer.now = put-fits c.args.i (omega arith) c.line_at-line.result c.line_at-line.ensures c.args.buffer.now c.args.at (omega arith) in
    simp (length-take, length-drop) (omega (arith, label-room c.args.i (omega arith) c.line_at-line.result c.line_at-line.ensures))

pub returns : goal.returns
returns c =
    let line = c.line_at-line in (
      put-place c.args.i (omega arith) line.result line.ensures c.args.buffer.now c.args.at (omega arith),
      label-put c.args.i (omega arith) line.result line.ensures c.args.buffer.now c.args.at (omega arith) _ c.copy_from_slice.ensures.after,
    )
