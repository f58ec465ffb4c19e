-- `relation_line::is_relations` meets its contract. Assumes nothing.
use Rattle.relation_line.proofs.Names.{relations-name}
use Rattle.relation_line.proofs.is_relations.Goals as goal

pub returns : goal.returns
returns c = relations-name c.args.id.now _ c.requires c.is_padded.ensures
