-- `listing_text::listed::put_rows` meets its contract: the lines of the first i rows are put. Assumes nothing.
use Rattle.std.proofs.Common.{◌+◌, ◌*◌, ◌≤◌, take}
use Rattle.metafile.specs.Listing.{row_lines}
use Rattle.text.specs.Put.{Put}
use Rattle.listing_text.proofs.listed.put_rows.Given as goal

abbrev pub invariant-loop-i : goal.invariant-loop-i
invariant-loop-i l = Put (row_lines 0 (take l.i l.rows)) l.at l.initial.buffer l.p l.buffer × (l.p ≤ l.at + 128 * l.i)
