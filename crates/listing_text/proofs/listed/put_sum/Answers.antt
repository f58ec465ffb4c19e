-- `listing_text::listed::put_sum` meets its contract. Assumes nothing.
use Rattle.std.proofs.Common.{arith}
use Rattle.metafile.specs.Listing.{good_or_bad}
use Rattle.listing_text.proofs.listed.put_sum.Goals as goal

pub returns-then-good : goal.returns-then-good
unfolding good_or_bad
returns-then-good c = rw c.if-good.true (c.put_word.ensures.0, omega (arith, c.put_word.ensures.1))

pub returns : goal.returns
unfolding good_or_bad
returns c = rw c.if-good.false (c.put_word-2.ensures.0, omega (arith, c.put_word-2.ensures.1))
