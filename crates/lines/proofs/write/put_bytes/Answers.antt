-- `lines::write::put_bytes` meets its contract. Assumes nothing.
use Rattle.std.proofs.Common.{refl}
use lib.ListN.{length}
use Rattle.table.proofs.Labels.{copied}
use Rattle.lines.proofs.write.put_bytes.Goals as goal

pub returns : goal.returns
returns c = (refl, copied c.args.at (length c.args.s.now) c.args.s.now c.args.buffer.now c.copy_from_slice.new.self refl c.copy_from_slice.ensures.after)
