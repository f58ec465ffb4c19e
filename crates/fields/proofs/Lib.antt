-- Prefix     the longest beginning of bytes that pass a test
-- Digits     numbers in digits
-- Tables     a function's values in a list
-- Calendar   the days of a month
-- Days       the number of a day
-- Decimal    the parts of a decimal, and its value
-- Same       bytes compared
-- Offset     time offsets: the sign, the tests, the value
pub mod Prefix
pub mod Digits
pub mod Tables
pub mod Calendar
pub mod Days
pub mod Decimal
pub mod Same
pub mod Offset
