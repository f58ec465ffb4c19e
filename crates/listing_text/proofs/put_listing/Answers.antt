-- `listing_text::put_listing` meets its contract. Assumes nothing.
use Rattle.std.proofs.Common.{◌≡◌}
use Rattle.metafile.specs.Listing.{end_line, listed, listing}
use Rattle.read.specs.Table.{table_reading}
use Rattle.text.proofs.Puts.{put_is}
use Rattle.read.proofs.Enough.{count-few, count-inside}
use Rattle.listing_text.proofs.Texts.{listing-short, listing-long}
use Rattle.listing_text.proofs.put_listing.Goals as goal

pub returns-then-input-gt-MOST : goal.returns-then-input-gt-MOST
returns-then-input-gt-MOST c =
    let e : end_line 0 c.number.result ≡ listing c.args.input.now =
    rw c.number.ensures (listing-long c.args.input.now c.if-input-gt-MOST.true) in
    put_is e c.put_end.ensures

pub put_listed-requires : goal.put_listed-requires
put_listed-requires c = (
  count-few c.args.input.now _ c.read_table-table.result.answer c.if-input-gt-MOST.false c.read_table-table.ensures,
  count-inside c.args.input.now _ c.read_table-table.result.answer c.if-input-gt-MOST.false c.read_table-table.ensures,
  c.requires,
)

pub returns : goal.returns
returns c =
    let t = c.read_table-table.result in
    let e : listed c.is_empty.result (table_reading t.rows t.answer) ≡ listing c.args.input.now =
    rw c.is_empty.ensures (listing-short c.args.input.now _ t.answer c.if-input-gt-MOST.false c.read_table-table.ensures) in
    put_is e c.put_listed.ensures
