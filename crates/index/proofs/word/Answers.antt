-- `index::word` meets its contract. Assumes nothing.
use mathlib.Core.Path.{◌∙◌}
use Rattle.index.proofs.Loops.{word-is}
use Rattle.index.proofs.word.Goals as goal

pub returns : goal.returns
returns c = (c.half_word.ensures.0 ∙ word-is c.args.s.now c.args.at, c.half_word.ensures.1)
