-- `walk::known::cursor_at` meets its contract. Assumes nothing.
use Rattle.walk.proofs.Cursors.{known-cursor}
use Rattle.walk.proofs.PlaceLaws.{row-inside, row-whole}
use Rattle.walk.proofs.known.cursor_at.Goals as goal

pub known_chunk-requires : goal.known_chunk-requires
known_chunk-requires c =
    record { at_in_bounds = row-inside c.requires.behind c.requires.n_in_bounds; file_value = row-whole c.requires.behind c.requires.n_in_bounds }

pub returns : goal.returns
returns c = known-cursor c.requires.behind c.requires.n_in_bounds c.known_chunk.ensures
