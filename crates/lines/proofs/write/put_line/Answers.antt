-- `lines::write::put_line` meets its contract. Assumes nothing.
use Prim.Native.Nat.{ℕ, ◌+◌, ◌-◌}
use mathlib.Core.Path.{◌≡◌, ◌∙◌}
use mathlib.Core.List.{List}
use lib.ListN.{length, take, drop, length-set}
use Rattle.metafile.specs.Lines.{width}
use Rattle.table.specs.Codes.{line_no}
use Rattle.lines.proofs.Puts.{line-size-is, value-length, value_taken, line-end, line-put}
use native.Mathlib.Omega.{arith}
use Rattle.lines.proofs.write.put_line.Goals as goal

pub put_label-p-requires : goal.put_label-p-requires
put_label-p-requires c = omega (arith, line-size-is (line_no c.args.i))

pub put_bytes-q-requires : goal.put_bytes-q-requires
put_bytes-q-requires c =
    let args = c.args in
    let label = c.put_label-p in
    omega (arith, line-size-is (line_no args.i), value-length args.values.now args.v c.value_bytes-w.result (width (line_no args.i).kind) c.value_bytes-w.ensures (omega arith), label.ensures.0, label.auto.buffer)

pub bounds-buffer-q : goal.bounds-buffer-q
bounds-buffer-q c =
    let args = c.args in
    let label = c.put_label-p in
    let value = c.put_bytes-q in
    let w = c.value_bytes-w in
    let x : List ℕ = take (args.v + w.result - args.v) (drop args.v args.values.now) in
    let long : length x ≡ width (line_no args.i).kind = value-length args.values.now args.v w.result (width (line_no args.i).kind) w.ensures (omega arith) in
    omega (arith, line-end (line_no args.i) args.buffer.now label.new.buffer value.new.buffer x args.at label.result value.result (omega arith) long label.ensures.0 value.ensures.0, label.auto.buffer, value.auto.buffer)

pub overflow_add-result : goal.overflow_add-result
overflow_add-result c =
    let args = c.args in
    let label = c.put_label-p in
    let value = c.put_bytes-q in
    let w = c.value_bytes-w in
    let x : List ℕ = take (args.v + w.result - args.v) (drop args.v args.values.now) in
    let long : length x ≡ width (line_no args.i).kind = value-length args.values.now args.v w.result (width (line_no args.i).kind) w.ensures (omega arith) in
    omega (arith, line-end (line_no args.i) args.buffer.now label.new.buffer value.new.buffer x args.at label.result value.result (omega arith) long label.ensures.0 value.ensures.0, label.auto.buffer, value.auto.buffer)

pub shape_of-buffer : goal.shape_of-buffer
shape_of-buffer c =
    let label = c.put_label-p in
    let value = c.put_bytes-q in
    simp length-set (omega (arith, label.auto.buffer, value.auto.buffer))

pub returns : goal.returns
returns c =
    let args = c.args in
    let label = c.put_label-p in
    let value = c.put_bytes-q in
    let w = c.value_bytes-w in
    let x : List ℕ = take (args.v + w.result - args.v) (drop args.v args.values.now) in
    let long : length x ≡ width (line_no args.i).kind = value-length args.values.now args.v w.result (width (line_no args.i).kind) w.ensures (omega arith) in
    let taken = value_taken args.values.now args.v w.result (width (line_no args.i).kind) w.ensures in
    (line-end (line_no args.i) args.buffer.now label.new.buffer value.new.buffer x args.at label.result value.result (omega arith) long label.ensures.0 value.ensures.0, line-put (line_no args.i) args.buffer.now label.new.buffer value.new.buffer x args.at label.result value.result (omega arith) long label.ensures.0 value.ensures.0 label.ensures.1 value.ensures.1 ∙ rw taken)
