-- `Description::recording` meets its contract: the text is the one that was taken. Assumes nothing.

use Rattle.metafile.proofs.Description.recording.Goals as goal

pub returns : goal.returns
returns c = rw c.taken-taken.ensures
