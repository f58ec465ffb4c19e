-- `listing_text::listing` meets its contract. Assumes nothing.
use Rattle.std.proofs.Common.{sym, ◌∙◌}
use Rattle.listing_text.proofs.Answers.{placed-first, listing-11, listing-18, listing-written}
use Rattle.listing_text.proofs.listing.Goals as goal

pub returns-then-over_limit : goal.returns-then-over_limit
returns-then-over_limit c = listing-11 _ _ (sym c.over_limit.ensures ∙ c.if-over_limit.true)

pub returns-then-buffer-n : goal.returns-then-buffer-n
returns-then-buffer-n c = listing-18 _ _ (sym c.over_limit.ensures ∙ c.if-over_limit.false) _ _ _ c.put_listing-n.ensures c.if-buffer-n.true

pub returns : goal.returns
returns c =
    listing-written _ _ (sym c.over_limit.ensures ∙ c.if-over_limit.false) _ _ _ c.put_listing-n.ensures c.if-buffer-n.false _
    (rw c.copy_from_slice.ensures.after (placed-first c.put_listing-n.ensures c.args.buffer.now))
