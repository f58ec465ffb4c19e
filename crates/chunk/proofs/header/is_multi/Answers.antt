-- `chunk::header::is_multi` meets its contract. Assumes nothing.
use Rattle.metafile.specs.Chunk.{is_multi, sub_format}
use Rattle.chunk.proofs.header.is_multi.Goals as goal

pub returns : goal.returns
unfolding is_multi sub_format
returns c = c.is_multi_name.ensures
