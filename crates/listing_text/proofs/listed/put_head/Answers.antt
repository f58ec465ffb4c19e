-- `listing_text::listed::put_head` meets its contract. Assumes nothing.
use Rattle.std.proofs.Common.{arith}
use Rattle.text.proofs.Puts.{put-behind, put_is}
use Rattle.text.proofs.Decimals.{decimal-few, decimal-end}
use Rattle.listing_text.proofs.Texts.{head-is}
use Rattle.listing_text.proofs.listed.put_head.Goals as goal

pub put_decimal-requires : goal.put_decimal-requires
put_decimal-requires c =
    omega (arith, decimal-few c.args.count, c.put_word-a.ensures.1, c.put_header_word-b.ensures.1, c.put_word-c.ensures.1)

pub returns : goal.returns
returns c = (
  put_is (head-is _ _ _)
      (put-behind (put-behind (put-behind c.put_word-a.ensures.0 c.put_header_word-b.ensures.0) c.put_word-c.ensures.0) c.put_decimal.ensures),
  omega (arith, decimal-end c.args.count 10 c.put_decimal.ensures, c.put_word-a.ensures.1, c.put_header_word-b.ensures.1, c.put_word-c.ensures.1),
)
