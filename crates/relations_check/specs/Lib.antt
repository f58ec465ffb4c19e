-- What the contracts cite.
--     Judged    verdicts by the rows so far
--     Window    rows in a directory
--     Latest    the relation chunk that holds
--     TextLines the lines of a text
--     Outcome   what the check gives behind the row
pub mod Judged
pub mod Window
pub mod Latest
pub mod TextLines
pub mod Outcome
