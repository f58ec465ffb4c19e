-- Contents   the contents of a MultiChunk that a row names, and its short IDs
-- Answers    what gather answers
pub mod Contents
pub mod Answers
