-- BigEndian   big-endian numbers, and the sum of a block
-- Pieces      lists one behind the other, each but the last as long as the others
-- Faults      the fault of a block, by its tests, and what holds of a block that has none
-- Shape       the parts of one block that was made, and a right block, made again
-- Taken       a packed file without a fault
-- Packed      what is packed is taken and given back, and only packed files are taken
-- Losses      what the blocks tell of a copy that lost some of them
-- Places      blocks and data by their places, as code goes through them
-- Answers     the answers of the two calls, by their tests
-- Calls       the two calls one behind the other
-- Samples     blocks, faults and calls by computing
pub mod BigEndian
pub mod Pieces
pub mod Faults
pub mod Shape
pub mod Taken
pub mod Packed
pub mod Losses
pub mod Places
pub mod Answers
pub mod Calls
pub mod Samples
