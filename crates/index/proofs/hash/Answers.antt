-- `index::hash` meets its contract. Assumes nothing.
use Rattle.index.proofs.Loops.{nine-are}
use Rattle.index.proofs.hash.Goals as goal

pub returns : goal.returns
returns c =
    nine-are c.args.s.now _ _ _ _ _ _ _ _ _ c.word.ensures.0 c.word-2.ensures.0 c.word-3.ensures.0 c.word-4.ensures.0
    c.word-5.ensures.0 c.word-6.ensures.0 c.word-7.ensures.0 c.word-8.ensures.0 c.word-9.ensures.0
