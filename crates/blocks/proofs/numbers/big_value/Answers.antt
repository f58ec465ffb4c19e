-- `blocks::numbers::big_value` meets its contract. Assumes nothing.
use Rattle.std.proofs.Common.{◌<◌, sym, ap, ◌∙◌, arith, take_all}
use Rattle.blocks.specs.Blocks.{big_value}
use Rattle.blocks.proofs.BigEndian.{value_none, value-more, value-small, value_grows}
use Rattle.blocks.proofs.numbers.big_value.Goals as goal

pub loop-b-init : goal.loop-b-init
loop-b-init c = (sym value_none, omega arith)

pub overflow_mul-value : goal.overflow_mul-value
overflow_mul-value c = omega (arith, value-small c.loop-b.b-index c.loop-b.value (omega arith) c.loop-b.invariant.1)

pub overflow_add-value : goal.overflow_add-value
overflow_add-value c = omega (arith, value-small c.loop-b.b-index c.loop-b.value (omega arith) c.loop-b.invariant.1, (c.type_inv.s c.loop-b.b-index).fits, c.from.ensures)

pub loop-b-preserved : goal.loop-b-preserved
loop-b-preserved c =
    let byte : c.from.result < 256 = omega (arith, (c.type_inv.s c.loop-b.b-index).fits, c.from.ensures) in
    (rw (c.loop-b.invariant.0, c.from.ensures) (sym (value-more c.args.s.now c.loop-b.b-index (omega arith))), value_grows c.loop-b.b-index c.loop-b.value c.from.result c.loop-b.invariant.1 byte)

pub returns : goal.returns
returns c = c.loop-b.invariant.0 ∙ ap big_value (take_all c.loop-b.b-index c.args.s.now (omega arith))
