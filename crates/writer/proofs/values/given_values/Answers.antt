-- `writer::values::given_values` meets its contract. Assumes nothing.
use Rattle.writer.proofs.Joined.{given_is}
use Rattle.writer.proofs.values.given_values.Goals as goal

pub returns : goal.returns
returns c =
    given_is c.args.d c.lined_up.result c.standard_stamp.result c.event_stamp.result
    c.standard_stamp.ensures c.event_stamp.ensures c.lined_up.ensures
