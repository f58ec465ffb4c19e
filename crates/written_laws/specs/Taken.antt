-- What an accepted append says of the file and of what was given, each by the number of the test that gives it ("Append
-- tests 11, 12, 6, 17, 13, 9, 15, 16, 18"): the hypotheses of demand 3. proofs/Taken.antt proves them of every accepted
-- append. Assumes nothing.
use Rattle.std.specs.Prelude.{ℕ, ◌^◌, ◌≤◌, ◌<◌, true, false, ◌≡◌, List, length}
use Rattle.metafile.specs.Bytes.{all, non_zero, same}
use Rattle.metafile.specs.Fields.{known}
use Rattle.metafile.specs.Lines.{lines_of, formed}
use Rattle.metafile.specs.Closing.{integrity_lines, integrity_values}
use Rattle.metafile.specs.Header.{mark_of}
use Rattle.metafile.specs.Chunk.{given_lines, multi_name}
use Rattle.metafile.specs.Reading.{reading, rows_of, serials_of}
use Rattle.metafile.specs.Append.{Given, sub_format_given, given_values, integrity_given, all_below, open_wrong}

pub record Taken (old : List ℕ) (g : Given) : Type 0 where
  -- 11 "a lent byte buffer over 2^30"
  pub specific-small : length g.specific ≤ 2 ^ 30
  pub contents-small : length g.contents ≤ 2 ^ 30
  -- 12 "file not clean"
  pub some_bytes : 0 < length old
  pub number-zero : (reading old).number ≡ 0
  pub stop-end : (reading old).stop ≡ length old
  -- 6 "field out of form or range"
  pub in-given : formed (lines_of given_lines) (given_values g.description) ≡ true
  pub in-integrity : formed (lines_of integrity_lines) (integrity_values (integrity_given g.description)) ≡ true
  -- 17 "append of a MultiChunk"
  pub plain : same (sub_format_given g.description) multi_name ≡ false
  -- 13 "row not in the reading; parents repeated or over 16"
  pub parents-below : all_below (length (rows_of old)) g.parents ≡ true
  pub parents-few : length g.parents ≤ 16
  -- 9 "serial already in a row"
  pub new-serial : known g.description.serial (serials_of (rows_of old)) ≡ false
  -- 15 "mark has a zero byte"
  pub clear : all non_zero (mark_of old) ≡ true
  -- 16 "open under LLC or for BIN, or open with the mark first found in data + mark before the data's end"
  pub open-right : open_wrong old g ≡ false
