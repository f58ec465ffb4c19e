-- `fields::numbers::digits_at` meets its contract. Assumes nothing.
use native.Mathlib.Nat.{add-sub_cancel_left}
use Rattle.metafile.specs.Fields.{digits_to}
use Rattle.fields.proofs.numbers.digits_at.Goals as goal

pub returns : goal.returns
unfolding digits_to
returns c = rw (c.number_at.ensures, c.is_digits.ensures, add-sub_cancel_left)
