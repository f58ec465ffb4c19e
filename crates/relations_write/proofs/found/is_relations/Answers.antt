-- `relations_write::found::is_relations` meets its contract. Assumes nothing.
use mathlib.Core.Path.{◌∙◌}
use Rattle.relations_write.proofs.Finds.{sub-format-at}
use Rattle.relations_write.proofs.found.is_relations.Goals as goal

pub returns : goal.returns
returns c =
    let args = c.args in
    c.is_relations.ensures ∙ sub-format-at args.file.now args.at
