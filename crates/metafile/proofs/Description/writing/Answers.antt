-- `Description::writing` meets its contract: the text is the one that was taken. Assumes nothing.

use Rattle.metafile.proofs.Description.writing.Goals as goal

pub returns : goal.returns
returns c = rw c.taken-taken.ensures
