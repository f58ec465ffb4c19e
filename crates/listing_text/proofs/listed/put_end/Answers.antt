-- `listing_text::listed::put_end` meets its contract. Assumes nothing.
use Rattle.std.proofs.Common.{arith}
use Rattle.text.proofs.Puts.{put-behind, put_is}
use Rattle.text.proofs.Decimals.{decimal-few, decimal-end}
use Rattle.listing_text.proofs.Texts.{end_line_lem}
use Rattle.listing_text.proofs.listed.put_end.Goals as goal

pub put_decimal-b-requires : goal.put_decimal-b-requires
put_decimal-b-requires c = omega (arith, decimal-few c.args.stop, c.put_word-a.ensures.1)

pub put_decimal-requires : goal.put_decimal-requires
put_decimal-requires c =
    omega (arith, decimal-few c.args.number, decimal-end c.args.stop 32 c.put_decimal-b.ensures, c.put_word-a.ensures.1)

pub returns : goal.returns
returns c =
    put_is (end_line_lem _ _) (put-behind (put-behind c.put_word-a.ensures.0 c.put_decimal-b.ensures) c.put_decimal.ensures)
