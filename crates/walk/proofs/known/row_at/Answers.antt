-- `walk::known::row_at` meets its contract. Assumes nothing.
use Rattle.walk.proofs.PlaceLaws.{row-inside, row-whole}
use Rattle.walk.proofs.known.row_at.Goals as goal

pub known_chunk-requires : goal.known_chunk-requires
known_chunk-requires c =
    record { at_in_bounds = row-inside c.requires.behind c.requires.n_in_bounds; file_value = row-whole c.requires.behind c.requires.n_in_bounds }

pub parts_of-requires : goal.parts_of-requires
parts_of-requires c = record { row_in_bounds = c.requires.n_in_bounds; l_value = c.known_chunk.ensures }
