-- `listing_text::listed::put_numbers` meets its contract. Assumes nothing.
use Rattle.std.proofs.Common.{arith}
use Rattle.text.proofs.Puts.{put-behind, put_is}
use Rattle.text.proofs.Decimals.{decimal-few, decimal-end}
use Rattle.listing_text.proofs.Texts.{numbers-are}
use Rattle.listing_text.proofs.listed.put_numbers.Goals as goal

pub put_decimal-a-requires : goal.put_decimal-a-requires
put_decimal-a-requires c = omega (arith, decimal-few c.args.k)

pub put_decimal-b-requires : goal.put_decimal-b-requires
put_decimal-b-requires c = omega (arith, decimal-end c.args.k 32 c.put_decimal-a.ensures, decimal-few c.args.row.now.place)

pub put_decimal-c-requires : goal.put_decimal-c-requires
put_decimal-c-requires c =
    omega (
      arith,
      decimal-end c.args.k 32 c.put_decimal-a.ensures,
      decimal-end c.args.row.now.place 32 c.put_decimal-b.ensures,
      decimal-few c.args.row.now.header,
    )

pub put_decimal-requires : goal.put_decimal-requires
put_decimal-requires c =
    omega (
      arith,
      decimal-end c.args.k 32 c.put_decimal-a.ensures,
      decimal-end c.args.row.now.place 32 c.put_decimal-b.ensures,
      decimal-end c.args.row.now.header 32 c.put_decimal-c.ensures,
      decimal-few c.args.row.now.bytes,
    )

pub returns : goal.returns
returns c = (
  put_is (numbers-are _ _ _ _)
      (put-behind (put-behind (put-behind c.put_decimal-a.ensures c.put_decimal-b.ensures) c.put_decimal-c.ensures) c.put_decimal.ensures),
  omega (
    arith,
    decimal-end c.args.k 32 c.put_decimal-a.ensures,
    decimal-end c.args.row.now.place 32 c.put_decimal-b.ensures,
    decimal-end c.args.row.now.header 32 c.put_decimal-c.ensures,
    decimal-end c.args.row.now.bytes 32 c.put_decimal.ensures,
  ),
)
