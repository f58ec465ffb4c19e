-- `fields::numbers::count_value` meets its contract: spaces in front count nothing. Assumes nothing.
use mathlib.Core.Path.{sym, ◌∙◌}
use Rattle.laws.proofs.Digits.{count-number}
use Rattle.fields.proofs.numbers.count_value.Goals as goal

pub returns : goal.returns
returns c = c.number.ensures ∙ sym (count-number _)
