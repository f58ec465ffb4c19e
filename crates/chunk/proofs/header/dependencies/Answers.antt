-- `chunk::header::dependencies` meets its contract. Assumes nothing.
use Rattle.metafile.specs.Chunk.{dependencies}
use Rattle.chunk.proofs.header.dependencies.Goals as goal

pub returns : goal.returns
unfolding dependencies
returns c = c.count_at.ensures
