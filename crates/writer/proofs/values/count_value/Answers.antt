-- `writer::values::count_value` meets its contract. Assumes nothing.
use Rattle.writer.proofs.Joined.{count-put}
use Rattle.writer.proofs.values.count_value.Goals as goal
use Rattle.writer.proofs.values.count_value.Goals.{then-open, else-open}

pub returns : goal.returns
returns c =
    elim c.if-open.branch [
      | then-open w ↦ let f = w.if-open.true in rw f (count-put 0 _ (rw w.count-is at c.put_number.ensures.1))
      | else-open w ↦ let f = w.if-open.false in rw f (count-put _ _ (rw w.count-is at c.put_number.ensures.1))
    ]
