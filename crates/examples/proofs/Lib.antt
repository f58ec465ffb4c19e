-- Texts      the texts of files, in pieces, without the definitions that write
-- Readings   the file of the paper's listing, read; contents, parent
-- Faults     the smallest file for each of the numbers 1 to 10, and 11
-- Order      "Fields are read in file order": files that end just behind a fault
-- Times      the time and event lines, read and written
-- Multis     a MultiChunk, read; gather
-- Marks      chunks under NUL, read; wrong sums
-- Appends    accepted appends; begun files
-- Refusals   refused appends and begins
-- Without    without test 15 demand 3 is false
pub mod Texts
pub mod Readings
pub mod Faults
pub mod Order
pub mod Times
pub mod Multis
pub mod Marks
pub mod Appends
pub mod Refusals
pub mod Without
