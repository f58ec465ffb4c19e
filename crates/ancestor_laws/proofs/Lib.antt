-- All that a chunk rests on (metafile's specs/Closure.antt and specs/Ancestors.antt).
--     Reached    what is reached: exactly where a chain of dependencies leads, of any length
--     Listed     which rows are listed, and what is counted as missing
--     Circles    when a chain comes back to a chunk on it
--     Appended   files that only begin and append made have no circle
--     Numbers    which number is answered, and what is left in the list
--     Samples    files, and rows with their parents, by computing
pub mod Reached
pub mod Listed
pub mod Circles
pub mod Appended
pub mod Numbers
pub mod Samples
