-- Laws of this crate's functions.
--     Files       the header and the mark of the file, as the calls below give them
--     Held        append's tests in groups
--     Surveyed    what walk's survey says to the tests and to the copies from parents
--     Refusals    the tests in their order
--     Chunks      the three writes of an accepted append
pub mod Files
pub mod Held
pub mod Surveyed
pub mod Refusals
pub mod Chunks
