-- `fields::numbers::number_at` meets its contract. Assumes nothing.
use native.Mathlib.Nat.{add-sub_cancel_left}
use Rattle.fields.proofs.numbers.number_at.Goals as goal

pub returns : goal.returns
returns c = rw add-sub_cancel_left at c.number.ensures
