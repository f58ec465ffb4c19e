-- `multi::types::type_count` meets its contract. Assumes nothing.
use Rattle.metafile.specs.Multi.{types_of}
use Rattle.multi.proofs.types.type_count.Goals as goal

pub returns : goal.returns
unfolding types_of
returns c = c.count_value.ensures
