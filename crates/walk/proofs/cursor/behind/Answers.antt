-- `walk::cursor::behind` meets its contract. Assumes nothing.
use mathlib.Core.Path.{refl}
use Rattle.walk.proofs.Cursors.{cursor-behind}
use Rattle.walk.proofs.cursor.behind.Goals as goal

pub returns-in-Ok : goal.returns-in-Ok
returns-in-Ok c = (cursor-behind c.requires.behind c.in-Ok.ensures.step c.in-Ok.ensures.indexed, refl)

pub returns-in-Err : goal.returns-in-Err
returns-in-Err c = (rw c.no_layout.ensures (cursor-behind c.requires.behind c.in-Err.ensures.step c.in-Err.ensures.indexed), refl)
