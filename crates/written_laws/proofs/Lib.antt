-- Laws of the chunk that an accepted append writes.
--     Taken       what acceptance says of append's tests
--     Formed      the lines that append writes are in form
--     Stretches   the new chunk as a chain of stretches, and the head's values
--     Numbers     its places and numbers
--     Finished    the new chunk is whole, ends where the last write ends, and has the row demanded
--     Handed      its lines hold what was given
pub mod Taken
pub mod Formed
pub mod Stretches
pub mod Numbers
pub mod Finished
pub mod Handed
