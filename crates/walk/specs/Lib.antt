-- What the contracts cite.
--     Walk     the answers of the functions
--     Index    the index of serial numbers
--     Ahead    the rows known to be there, ahead of the reading
--     Cursor   the cursor over the rows
--     Known    the rows once more, behind a reading
--     Survey   the survey of a file
pub mod Walk
pub mod Index
pub mod Ahead
pub mod Cursor
pub mod Known
pub mod Survey
