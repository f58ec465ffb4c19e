-- The definitions of the ADS metafile, in the order of the scope paper.
--     Bytes      tests on bytes and lists of bytes, the first fault
--     Fields     text fields: digits, counts, text, date, offset, serial number
--     Days       dates as day numbers; what reading a date gives
--     Lines      field kinds, the field rule, the table of lines, the reader's and the writer's run
--     Closing    integrity data, sum, closing
--     Header     the file header
--     Multi      the contents of a MultiChunk
--     Chunk      one chunk, read from its own place, and its row
--     Reading    rows, stop, header sum, number; clean; rows enough
--     Refusals   the refusals by their numbers
--     Answers    what the calls answer, by number and values; tests in order
--     Begin      begin
--     Description  the chunk description's methods
--     Append     append: tests, the three writes, the buffer afterwards
--     Calls      read, parent, contents, gather
--     Below      tests and lists over the numbers below another
--     Closure    what is reached in steps between rows, and circles
--     Ancestors  ancestors: the rows that a row rests on
--     Relations  the contents of ADS\SYS\Relations: written, checked
--     Cut        what a power cut leaves
--     Demand     what is demanded of a reading after a power cut
--     Listing    the text that the listing program prints
pub mod Bytes
pub mod Fields
pub mod Days
pub mod Lines
pub mod Closing
pub mod Header
pub mod Multi
pub mod Chunk
pub mod Reading
pub mod Refusals
pub mod Answers
pub mod Begin
pub mod Description
pub mod Append
pub mod Calls
pub mod Below
pub mod Closure
pub mod Ancestors
pub mod Relations
pub mod Cut
pub mod Demand
pub mod Listing
