-- `read::ended` meets its contract. Assumes nothing.
use borrow.Author.Rules.{rules}
use Rattle.read.specs.State.{answer_of}
use Rattle.read.proofs.ended.Goals as goal

pub returns : goal.returns
unfolding answer_of
returns c = search rules
