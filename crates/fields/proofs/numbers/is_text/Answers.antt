-- `fields::numbers::is_text` meets its contract: the bounds are those of a text byte. Assumes nothing.
use Rattle.metafile.specs.Fields.{is_text}
use Rattle.fields.proofs.numbers.is_text.Goals as goal

pub returns : goal.returns
unfolding is_text
returns c = c.within.ensures
