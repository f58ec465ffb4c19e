-- `metafile::Row::none` meets its contract. Assumes nothing.
use borrow.Author.Rules.{rules}
use Rattle.metafile.specs.Append.{no_row}
use Rattle.metafile.proofs.Row.none.Goals as goal

pub returns : goal.returns
unfolding no_row
returns c = search rules
