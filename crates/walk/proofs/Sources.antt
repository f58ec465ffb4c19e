-- A file with its whole header, and positions in it (src/source).
--     begun        the header, part by part
--     asked        the chunk of a row is whole, inside the file
--     at_first     where the first row begins
--     behind       a position, as a reading stands there
-- Assumes nothing.
use Prim.Native.Nat.{ℕ, ◌≤◌, ◌<◌}
use mathlib.Core.Path.{◌≡◌, sym, ◌∙◌}
use lib.ListN.{length, drop}
use Rattle.metafile.specs.Header.{is_llc, mark_of, header_fault}
use Rattle.metafile.specs.Chunk.{chunk_fault}
use Rattle.metafile.specs.Reading.{rows_of}
use Rattle.chunk.specs.declared.parts.Layout.{Layout}
use Rattle.walk.specs.declared.source.Source.{Source}
use Rattle.walk.specs.declared.source.Position.{Position}
use Rattle.walk.specs.Cursor.{Behind}
use Rattle.walk.specs.Walk.{place_after, chunk_at}
use Rattle.walk.proofs.Stages.{HeaderIs, header_is}
use Rattle.walk.proofs.Steps.{place_none}
use Rattle.walk.proofs.Loops.{Turn, turn, place_inside, place-whole}

module _ (s : Source) where
  pub begun : HeaderIs s.header s.file.now
  begun = header_is s.header s.file.now s.header_is s.whole

  pub whole : header_fault s.file.now ≡ 0
  whole = begun.whole

  pub at_first : s.header.end ≡ place_after s.file.now 0
  at_first = begun.end_is ∙ sym (place_none s.file.now whole)

  -- at row i
  module _ {i at : ℕ} (p : at ≡ place_after s.file.now i) where
    pub inside : i ≤ length (rows_of s.file.now) → at ≤ length s.file.now
    inside h = place_inside s.file.now whole i at h p

    module _ (h : i < length (rows_of s.file.now)) where
      pub unfaulted : chunk_fault (is_llc s.file.now) (mark_of s.file.now) (drop at s.file.now) ≡ 0
      unfaulted = place-whole s.file.now whole i at h p

      pub turns : {l : Layout} → l ≡ chunk_at s.file.now at → Turn s.file.now i at l
      turns {l} is = turn s.file.now whole i at l h p is

pub behind : (p : Position) → Behind p.source.file.now p.source.header p.row p.at
behind p = record { header_is = p.source.header_is; whole = p.source.whole; few = p.few; place_is = p.at_is }
