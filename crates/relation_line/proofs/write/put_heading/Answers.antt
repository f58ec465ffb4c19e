-- `relation_line::write::put_heading` meets its contract. Assumes nothing.
use borrow.Author.Rules.{rules}
use Rattle.metafile.specs.Relations.{divided, heading}
use Rattle.relation_line.proofs.write.put_heading.Goals as goal

pub returns : goal.returns
unfolding heading divided
returns c = (search rules, c.put_word.ensures.0.bytes-are)
