-- `listing_text::listed::put_listed` meets its contract. Assumes nothing.
use Rattle.text.proofs.Puts.{put-behind, put_is}
use Rattle.listing_text.proofs.Texts.{listed-is}
use Rattle.listing_text.proofs.listed.put_listed.Goals as goal

pub returns : goal.returns
returns c =
    put_is (listed-is c.args.none c.args.table.now.rows c.args.table.now.answer c.requires.1)
    (put-behind (put-behind c.put_head-a.ensures.0 c.put_rows-b.ensures.0) c.put_end.ensures)
