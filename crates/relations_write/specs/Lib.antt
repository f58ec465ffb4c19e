-- What the contracts cite.
--     Found     the relations rows, and whether a dependency is listed
--     Counted   the lines of a chunk, and lines in a buffer
pub mod Found
pub mod Counted
