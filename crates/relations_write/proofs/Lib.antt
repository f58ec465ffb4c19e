-- Finds     relations rows in a directory, and whether a serial number finds one
-- Lines     the lines of a chunk and of all rows: how many they are, and put into a buffer
-- Answers   what write answers
pub mod Finds
pub mod Lines
pub mod Answers
