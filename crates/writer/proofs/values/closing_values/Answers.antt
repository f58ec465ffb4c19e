-- `writer::values::closing_values` meets its contract. Assumes nothing.
use Rattle.writer.proofs.Joined.{closing-is}
use Rattle.writer.proofs.values.closing_values.Goals as goal

pub returns : goal.returns
returns c = closing-is c.args.d c.integrity_values.result c.integrity_values.ensures
