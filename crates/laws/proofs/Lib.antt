-- First      tests, and the first fault of stages in a row
-- Lists      equal bytes, tests over all bytes, parts, members
-- Digits     a number in n digits is read back
-- SameSerial serial numbers compared by their first 35 bytes
-- Zero       what holds no zero byte: digits, text, date, offset, serial number; what is text
-- Dates      what reading a date or a serial number gives
-- Below      tests of the numbers below n, and a property of all elements of their lists
-- Closure    what is reached in steps: every step, closed, least; circles
-- Split      bytes divided at a byte, fields with it between them, lines each with its LF
-- Table      the field rule, and the laws of a run over a stretch of fields: enough, local, zero-free, round trip
-- Stages     stages in a row as code goes through them, and bytes at a place
-- Loops      what loops over bytes need
-- Distances  sizes of the stretches, and the distances at which values are read
-- Closed     a closing that was written is read back
-- Accepted   what an accepted call says of its tests
-- Begun      what begin wrote reads cleanly
-- Limits     the limit of lent buffers, for any number of them
-- Outcomes   what a call that writes answers and leaves, from its tests
pub mod First
pub mod Lists
pub mod Digits
pub mod SameSerial
pub mod Zero
pub mod Dates
pub mod Below
pub mod Closure
pub mod Split
pub mod Table
pub mod Stages
pub mod Loops
pub mod Distances
pub mod Closed
pub mod Accepted
pub mod Begun
pub mod Limits
pub mod Outcomes
