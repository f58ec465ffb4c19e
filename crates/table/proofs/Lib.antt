-- Lines    the code's table is the table of the definitions, and each label stands in its bytes
-- Labels   the answers of a comparison with a label, and a label put
-- Padded   names in a field, padded with spaces
pub mod Lines
pub mod Labels
pub mod Padded
