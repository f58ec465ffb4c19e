-- `walk::cursor::none` meets its contract. Assumes nothing.
use Rattle.walk.specs.Cursor.{cursor_none}
use Rattle.walk.proofs.cursor.none.Goals as goal

pub returns : goal.returns
unfolding cursor_none
returns c = cc c.no_layout.ensures
