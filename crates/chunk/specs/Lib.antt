-- What the contracts cite beside the definitions of the crate metafile.
--     Layout   the layout of a chunk, and the answers on contents
pub mod Layout
