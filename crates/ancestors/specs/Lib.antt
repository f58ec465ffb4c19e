-- What the contracts of `ancestors` cite beside the definitions of the crate metafile.
--     Noted   the rows of a file, noted
--     Steps   the table of steps, and the dependencies of each row that name no row
--     Lists   the rows that are marked
pub mod Noted
pub mod Steps
pub mod Lists
