-- What the contracts cite beside metafile's definitions.
--     Answers   the paper's answer for each struct
pub mod Answers
