-- `fields::numbers::is_digits` meets its contract: the bounds are those of a digit. Assumes nothing.
use Rattle.metafile.specs.Fields.{is_digit}
use Rattle.fields.proofs.numbers.is_digits.Goals as goal

pub returns : goal.returns
unfolding is_digit
returns c = c.within.ensures
