-- The contents of a relation chunk (metafile's specs/Relations.antt), written and checked.
--     Written    every line written is well-formed and declared; the text's length and its lines
--     Latest     which of several relation chunks holds, and the check of that one
--     Appended   the text of a file, appended to it, is checked there: every line is declared; when it holds
pub mod Written
pub mod Latest
pub mod Appended
