-- `walk::cursor::first` meets its contract. Assumes nothing.
use Rattle.walk.proofs.Cursors.{cursor-none, first-behind}
use Rattle.walk.proofs.cursor.first.Goals as goal

pub returns-then-h-ne0 : goal.returns-then-h-ne0
returns-then-h-ne0 c =
    let none = c in
    let h = none in
    cursor-none _ h.header-h.result h.header-h.ensures none.if-h-ne0.true none.none-c.ensures c.unbegun.ensures h.requires

pub behind-requires : goal.behind-requires
behind-requires c =
    let h = c in record { behind = first-behind _ h.header-h.result h.header-h.ensures c.if-h-ne0.false; indexed = c.requires }
