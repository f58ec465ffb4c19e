-- `chunk::contents::contents_from` meets its contract. Assumes nothing.
use Rattle.chunk.proofs.Plain.{from-multi, from-plain}
use Rattle.chunk.proofs.contents.contents_from.Goals as goal

pub returns-then-multichunk : goal.returns-then-multichunk
returns-then-multichunk c = from-multi c.args.multichunk c.if-multichunk.true

pub returns-else-multichunk : goal.returns-else-multichunk
returns-else-multichunk c = from-plain c.args.multichunk c.if-multichunk.false
