-- What the contracts cite.
--     Values   values of lines one behind the other
--     Parents  rows named as parents: test 13, and where they stand in the file
pub mod Values
pub mod Parents
