-- `chunk::contents::contents_part` meets its contract. Assumes nothing.
use Rattle.chunk.proofs.Plain.{contents-multi, contents-plain}
use Rattle.chunk.proofs.contents.contents_part.Goals as goal

pub returns-then-multichunk : goal.returns-then-multichunk
returns-then-multichunk c =
    let a = c.args in
    contents-multi a.multichunk a.llc a.mark.now a.r.now _ c.if-multichunk.true c.multi_part.ensures

pub returns : goal.returns
returns c =
    let a = c.args in
    contents-plain a.multichunk a.llc a.mark.now a.r.now _ c.if-multichunk.false c.plain_part.ensures
