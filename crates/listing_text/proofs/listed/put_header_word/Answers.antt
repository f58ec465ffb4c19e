-- `listing_text::listed::put_header_word` meets its contract. Assumes nothing.
use Rattle.std.proofs.Common.{arith}
use Rattle.metafile.specs.Listing.{header_word}
use Rattle.listing_text.proofs.listed.put_header_word.Goals as goal

pub returns-then-none : goal.returns-then-none
unfolding header_word
returns-then-none c = rw c.if-none.true (c.put_word.ensures.0, omega (arith, c.put_word.ensures.1))

pub returns : goal.returns
unfolding header_word
returns c = rw c.if-none.false c.put_sum.ensures
