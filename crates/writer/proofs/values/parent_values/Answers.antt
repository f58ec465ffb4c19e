-- `writer::values::parent_values` meets its contract. Assumes nothing.
use borrow.Author.Rules.{rules}
use Rattle.writer.proofs.Joined.{parent-put}
use Rattle.writer.proofs.values.parent_values.Goals as goal

pub returns : goal.returns
returns c =
    let start = c in
    parent-put start.args.serial start.args.name.now c.put_bytes.new.buffer c.put_bytes-2.new.buffer
    (search rules) start.requires c.put_bytes.ensures.1 c.put_bytes-2.ensures.1
