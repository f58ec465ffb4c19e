-- `chunk::header::is_multi_name` meets its contract. Assumes nothing.
use Rattle.chunk.proofs.Headers.{multi-name}
use Rattle.chunk.proofs.header.is_multi_name.Goals as goal

pub returns : goal.returns
returns c = multi-name c.args.id.now _ c.requires c.is_padded.ensures
