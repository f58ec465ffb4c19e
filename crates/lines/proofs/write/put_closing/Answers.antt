-- `lines::write::put_closing` meets its contract. Assumes nothing.
use mathlib.Core.Path.{◌∙◌}
use lib.ListN.{length-set}
use Rattle.lines.proofs.Puts.{integrity-size, integrity-values, checksum-label, closing-put}
use native.Mathlib.Omega.{arith}
use Rattle.lines.proofs.write.put_closing.Goals as goal

pub put_lines-label-requires : goal.put_lines-label-requires
put_lines-label-requires c =
    let pre = c.requires in
    let mark = c.put_bytes-lines in
    omega (arith, pre, mark.ensures.0, mark.auto.buffer, integrity-size, integrity-values, checksum-label)

pub put_label-digits-requires : goal.put_label-digits-requires
put_label-digits-requires c =
    let pre = c.requires in
    let mark = c.put_bytes-lines in
    let lines = c.put_lines-label in
    omega (arith, pre, mark.ensures.0, mark.auto.buffer, lines.ensures.0, lines.auto.buffer, integrity-size, integrity-values, checksum-label)

pub slice_bounds-word_sum-end : goal.slice_bounds-word_sum-end
slice_bounds-word_sum-end c =
    let pre = c.requires in
    let mark = c.put_bytes-lines in
    let lines = c.put_lines-label in
    let label = c.put_label-digits in
    omega (arith, pre, mark.ensures.0, mark.auto.buffer, lines.ensures.0, lines.auto.buffer, label.ensures.0, label.auto.buffer, integrity-size, integrity-values, checksum-label)

pub put_number-end-requires : goal.put_number-end-requires
put_number-end-requires c =
    let pre = c.requires in
    let mark = c.put_bytes-lines in
    let lines = c.put_lines-label in
    let label = c.put_label-digits in
    omega (arith, pre, mark.ensures.0, mark.auto.buffer, lines.ensures.0, lines.auto.buffer, label.ensures.0, label.auto.buffer, integrity-size, integrity-values, checksum-label)

pub bounds-buffer-end : goal.bounds-buffer-end
bounds-buffer-end c =
    let pre = c.requires in
    let mark = c.put_bytes-lines in
    let lines = c.put_lines-label in
    let label = c.put_label-digits in
    let digits = c.put_number-end in
    omega (arith, pre, mark.ensures.0, mark.auto.buffer, lines.ensures.0, lines.auto.buffer, label.ensures.0, label.auto.buffer, digits.ensures.0, digits.auto.buffer, integrity-size, integrity-values, checksum-label)

pub overflow_add-end : goal.overflow_add-end
overflow_add-end c =
    let pre = c.requires in
    let mark = c.put_bytes-lines in
    let lines = c.put_lines-label in
    let label = c.put_label-digits in
    let digits = c.put_number-end in
    omega (arith, pre, c.well_formed.0.0, mark.ensures.0, mark.auto.buffer, lines.ensures.0, lines.auto.buffer, label.ensures.0, label.auto.buffer, digits.ensures.0, digits.auto.buffer, integrity-size, integrity-values, checksum-label)

pub put_bytes-requires : goal.put_bytes-requires
put_bytes-requires c =
    let pre = c.requires in
    let mark = c.put_bytes-lines in
    let lines = c.put_lines-label in
    let label = c.put_label-digits in
    let digits = c.put_number-end in
    simp length-set (omega (arith, pre, mark.ensures.0, mark.auto.buffer, lines.ensures.0, lines.auto.buffer, label.ensures.0, label.auto.buffer, digits.ensures.0, digits.auto.buffer, integrity-size, integrity-values, checksum-label))

pub shape_of-buffer : goal.shape_of-buffer
shape_of-buffer c =
    let pre = c.requires in
    let mark = c.put_bytes-lines in
    let lines = c.put_lines-label in
    let label = c.put_label-digits in
    let digits = c.put_number-end in
    let last = c.put_bytes in
    simp length-set at last.auto.buffer ∙ digits.auto.buffer ∙ label.auto.buffer ∙ lines.auto.buffer ∙ mark.auto.buffer

pub returns : goal.returns
returns c =
    let pre = c.requires in
    let mark = c.put_bytes-lines in
    let lines = c.put_lines-label in
    let label = c.put_label-digits in
    let total = c.word_sum-sum in
    let digits = c.put_number-end in
    let last = c.put_bytes in
    let args = c.args in
    (omega (arith, pre, mark.ensures.0, mark.auto.buffer, lines.ensures.0, lines.auto.buffer, label.ensures.0, label.auto.buffer, digits.ensures.0, digits.auto.buffer, last.ensures.0, last.auto.buffer, integrity-size, integrity-values, checksum-label), closing-put args.mark.now args.values.now args.buffer.now args.from args.at pre.0 pre.1 pre.2 mark.new.buffer lines.new.buffer label.new.buffer mark.result lines.result label.result mark.ensures.1 mark.ensures.0 lines.ensures.1 lines.ensures.0 label.ensures.1 label.ensures.0 c.from.result digits.result digits.new.buffer last.new.buffer (c.from.ensures ∙ total.ensures) digits.ensures.1 digits.ensures.0 last.ensures.1)
