-- `graph::reach` meets its contract. Assumes nothing.
use Rattle.graph.proofs.Laws.{begun, reached}
use Rattle.graph.proofs.reach.Goals as goal

pub standing-requires : goal.standing-requires
standing-requires c = begun _ _ _ c.requires.table_len c.requires.n_bound c.requires.row_lt_n

pub returns-then-standing : goal.returns-then-standing
returns-then-standing c = reached c.requires.n_bound c.requires.row_lt_n (c.standing.ensures.done c.if-standing.true)
