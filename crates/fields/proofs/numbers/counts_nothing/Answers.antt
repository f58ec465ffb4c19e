-- `fields::numbers::counts_nothing` meets its contract. Assumes nothing.
use mathlib.Core.Path.{◌∙◌}
use Rattle.fields.proofs.Digits.{nothing_is}
use Rattle.fields.proofs.numbers.counts_nothing.Goals as goal

pub returns : goal.returns
returns c = c.within.ensures ∙ nothing_is _
