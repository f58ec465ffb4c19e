-- `writer::values::standard_stamp` meets its contract. Assumes nothing.
use borrow.Author.Rules.{rules}
use Rattle.writer.proofs.Joined.{standard-is}
use Rattle.writer.proofs.values.standard_stamp.Goals as goal

pub returns : goal.returns
returns c =
    let start = c in
    standard-is start.args.word start.args.serial (search rules) (search rules) c.stamp.result c.is_word.result c.is_word.ensures c.stamp.ensures
