-- Answers   the part that a row names, and what contents hands back
pub mod Answers
