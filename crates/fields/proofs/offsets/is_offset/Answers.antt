-- `fields::offsets::is_offset` meets its contract. Assumes nothing.
use native.Mathlib.Omega.{arith}
use Rattle.fields.proofs.Offset.{offset-tests}
use Rattle.fields.proofs.offsets.is_offset.Goals as goal

pub returns : goal.returns
returns c =
    offset-tests c.args.s.now _ _ _ (omega arith)
    c.digits_at.ensures c.digits_at-2.ensures c.is_seconds.ensures
