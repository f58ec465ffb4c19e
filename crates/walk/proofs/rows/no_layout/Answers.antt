-- `walk::rows::no_layout` meets its contract. Assumes nothing.
use borrow.Author.Rules.{rules}
use Rattle.walk.specs.Walk.{no_layout}
use Rattle.walk.proofs.rows.no_layout.Goals as goal

pub returns : goal.returns
unfolding no_layout
returns c = search rules
