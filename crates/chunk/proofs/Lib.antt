-- Laws that the proofs of the functions cite.
--     Valued     counts at their places
--     Stages     stages of one field, a run of free bytes, the answers on contents
--     Headers    the header of a chunk: names, numbers, lengths, dependencies
--     Plain      plain contents
--     Closings   the closing
--     Layouts    the layout of a chunk, and what a whole one says of its places
pub mod Valued
pub mod Stages
pub mod Headers
pub mod Plain
pub mod Closings
pub mod Layouts
