-- `fields::offsets::signed` meets its contract. Assumes nothing.
use Rattle.fields.proofs.Offset.{minus-fits, value-minus, value-plus}
use Rattle.fields.proofs.offsets.signed.Goals as goal

pub overflow_sub-result : goal.overflow_sub-result
overflow_sub-result c = minus-fits _ c.requires

pub returns-then-minus : goal.returns-then-minus
returns-then-minus c = value-minus _ c.requires _ c.if-minus.true

pub returns : goal.returns
returns c = value-plus _ c.requires _ c.if-minus.false
