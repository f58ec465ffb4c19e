-- `listing_text::listed::put_row` meets its contract. Assumes nothing.
use Rattle.std.proofs.Common.{◌≡◌, length, arith, rules}
use Rattle.text.proofs.Puts.{put-behind, put_is}
use Rattle.listing_text.proofs.Texts.{row_is}
use Rattle.listing_text.proofs.listed.put_row.Goals as goal

pub returns : goal.returns
returns c =
    let long : length c.args.row.now.serial ≡ 38 = search rules in (
      put_is (row_is c.args.k c.args.row.now) (put-behind (put-behind c.put_numbers-a.ensures.0 c.put_sum-b.ensures.0) c.put_word.ensures.0),
      omega (arith, c.put_numbers-a.ensures.1, c.put_sum-b.ensures.1, c.put_word.ensures.1),
    )
