-- Texts    the text by its pieces
-- Answers  the two refusals, and the text written
pub mod Texts
pub mod Answers
