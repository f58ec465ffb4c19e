-- Answers   what parent answers, and where a dependency stands in the file
pub mod Answers
