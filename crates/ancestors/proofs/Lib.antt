-- Laws for the functions of `ancestors`.
--     Noting   all rows noted, and the search for a serial number among them
--     Tabling  the table of steps, row by row and dependency by dependency
--     Marked   the rows that are marked: counted, put into a list, their missing parents added up
--     Answers  the answers, by the tests
mod Noting
mod Tabling
mod Marked
mod Answers
