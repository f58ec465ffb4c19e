-- `sums::words::single_sum` meets its contract: no bytes, or one word. Assumes nothing.
use Rattle.std.proofs.Common.{arith}
use Rattle.metafile.specs.Bytes.{sum}
use Rattle.sums.proofs.Laws.{sum-empty}
use Rattle.sums.proofs.Lanes.{words-alone}
use Rattle.sums.proofs.words.single_sum.Goals as goal

pub returns-then-s-lt8 : goal.returns-then-s-lt8
returns-then-s-lt8 c = sum-empty c.args.s.now (omega arith)

pub folded-requires : goal.folded-requires
folded-requires c = (_, words-alone c.word-w.ensures.1 c.evens.ensures)

pub returns : goal.returns
unfolding sum
returns c = c.folded.ensures _ (words-alone c.word-w.ensures.1 c.evens.ensures)
