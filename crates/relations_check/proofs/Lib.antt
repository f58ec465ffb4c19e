-- Laws of the check.
--     Lines      the lines of a text from a place on, and their verdicts
--     Windows    rows entered into a directory
--     Declared   a line looked up among the rows of a window
--     Choosing   the row at which a cursor stands, and the relation chunk that holds
--     Judgings   the list from the first row to the last, and the outcome from the tests
pub mod Lines
pub mod Windows
pub mod Declared
pub mod Choosing
pub mod Judgings
