-- `ancestors::rows::note_rows` meets its contract. Assumes nothing.
use Rattle.std.proofs.Common.{sym}
use Rattle.walk.proofs.Index.{indexed-none}
use Rattle.walk.proofs.Cursors.{stops}
use Rattle.ancestors.proofs.rows.note_rows.Goals as goal

pub first-c-requires : goal.first-c-requires
first-c-requires c = indexed-none c.args.file.now 0

pub returns : goal.returns
returns c = (sym (stops c.loop-c.invariant.0 c.loop-c-test.false).count, c.loop-c.invariant.1)
