-- `relation_line::is_heading` meets its contract. Assumes nothing.
use Rattle.metafile.specs.Relations.{divided, heading}
use Rattle.relation_line.proofs.is_heading.Goals as goal

pub returns : goal.returns
unfolding heading divided
returns c = c.same_bytes.ensures
