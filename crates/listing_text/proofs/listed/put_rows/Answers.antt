-- `listing_text::listed::put_rows` meets its contract: the lines of the first i rows are put. Assumes nothing.
use Rattle.std.proofs.Common.{sym, arith}
use Rattle.text.proofs.Puts.{put-none, put-behind, put_is}
use Rattle.listing_text.proofs.Texts.{rows_none, rows_more}
use Rattle.listing_text.proofs.listed.put_rows.Goals as goal

pub loop-i-init : goal.loop-i-init
loop-i-init c = (put_is (sym (rows_none c.args.rows.now)) (put-none c.args.at c.args.buffer.now (omega arith)), omega arith)

pub loop-i-preserved : goal.loop-i-preserved
loop-i-preserved c = (
  put_is (rows_more c.args.rows.now c.loop-i.i _ c.loop-i-test.true) (put-behind c.loop-i.invariant.0 c.put_row-p.ensures.0),
  omega (arith, c.put_row-p.ensures.1),
)
