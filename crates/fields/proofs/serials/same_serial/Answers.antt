-- `fields::serials::same_serial` meets its contract. Assumes nothing.
use Rattle.metafile.specs.Fields.{same_serial}
use Rattle.fields.proofs.serials.same_serial.Goals as goal

pub returns : goal.returns
unfolding same_serial
returns c = c.same_bytes.ensures
