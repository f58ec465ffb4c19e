-- `chunk::parts_of` meets its contract. Assumes nothing.
use mathlib.Core.Path.{sym, ◌∙◌}
use Rattle.chunk_laws.proofs.Chunk.{whole}
use Rattle.chunk.proofs.Layouts.{parts-long}
use Rattle.chunk.proofs.parts_of.Goals as goal

pub header_bytes-header-requires : goal.header_bytes-header-requires
header_bytes-header-requires c =
    let k = c in
    let w = whole k.args.llc _ _ k.requires in record { lines = w.in_head; lengths = w.in-lengths }

pub is_multi-requires : goal.is_multi-requires
is_multi-requires c = parts-long _ _ _ c.requires

pub known_parts-requires : goal.known_parts-requires
known_parts-requires c =
    let m = c in record { s_value = m.requires; header_value = (m.header_bytes-header.ensures, sym c.if-is_multi.true ∙ m.is_multi.ensures) }

pub known_parts-requires-then-header-eq-LEAST : goal.known_parts-requires-then-header-eq-LEAST
known_parts-requires-then-header-eq-LEAST c =
    let m = c in record { s_value = m.requires; header_value = (sym c.if-header-eq-LEAST.true ∙ m.header_bytes-header.ensures, sym c.if-is_multi.false ∙ m.is_multi.ensures) }

pub known_parts-requires-2 : goal.known_parts-requires-2
known_parts-requires-2 c =
    let m = c in record { s_value = m.requires; header_value = (m.header_bytes-header.ensures, sym c.if-is_multi.false ∙ m.is_multi.ensures) }
