-- Laws of this crate's functions.
--     Placed      bytes put at a place of a buffer, and into spaces
--     Joined      values put one behind the other, and taken apart by the lines' widths
--     Described   what is given, as the reader judges it
--     Named       13: rows named as parents
--     Rows        where the values of rows stand in the file, and the lines of parents
--     Refused     a call that is refused
pub mod Placed
pub mod Joined
pub mod Described
pub mod Named
pub mod Rows
pub mod Refused
