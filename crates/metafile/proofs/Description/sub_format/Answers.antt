-- `Description::sub_format` meets its contract: the text is the one that was taken. Assumes nothing.

use Rattle.metafile.proofs.Description.sub_format.Goals as goal

pub returns : goal.returns
returns c = rw c.taken-taken.ensures
