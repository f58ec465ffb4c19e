-- Laws of the reading without a table.
--     Stages    the file header, by its stages
--     Serials   serial numbers in the rows so far
--     Steps     the steps of a reading: places, rows, where it stops, a reading into n rows
--     Index     the index of serial numbers
--     Loops     what the functions over the steps need
--     Sources   a file with its whole header
--     Ahead     the rows known to be there, by the chunks ahead
--     Cursors   the cursor over the rows
--     Places    the rows once more, behind a reading
--     Named     the row of a number
--     Notes     the values of the rows named, in a survey
pub mod Stages
pub mod Serials
pub mod Steps
pub mod Index
pub mod Loops
pub mod Sources
pub mod Ahead
pub mod Cursors
pub mod PlaceLaws
pub mod Named
pub mod Notes
