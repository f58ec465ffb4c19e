-- `writer::values::event_stamp` meets its contract. Assumes nothing.
use borrow.Author.Rules.{rules}
use Rattle.writer.proofs.Joined.{event-is}
use Rattle.writer.proofs.values.event_stamp.Goals as goal

pub returns : goal.returns
returns c =
    let start = c in
    event-is start.args.word start.args.serial (search rules) (search rules) c.stamp.result c.is_word.result c.is_word-2.result
    c.is_word.ensures c.is_word-2.ensures c.stamp.ensures
