-- `fields::offsets::only_spaces` meets its contract. Assumes nothing.
use Rattle.metafile.specs.Fields.{is_space}
use Rattle.fields.proofs.Prefix.{within-space, whole_is}
use Rattle.fields.proofs.offsets.only_spaces.Goals as goal

pub returns : goal.returns
returns c = whole_is is_space _ _ (rw within-space at c.leading.ensures)
