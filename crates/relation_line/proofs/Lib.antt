-- Ranges  the numbers below n as a list
-- Names   the name of a relation chunk, and of a relation line
-- Stand   where the fields of a well-formed line stand
-- Forms   the form of a line, and its verdict
-- Parents what a chunk declares
-- Written a line put field by field
pub mod Ranges
pub mod Names
pub mod Stand
pub mod Forms
pub mod Parents
pub mod Written
