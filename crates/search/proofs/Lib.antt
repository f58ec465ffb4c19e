-- Laws       the same bytes, the first place of a byte and of a mark, every place of its first byte tried
-- Shifts     the same by a table of shifts, and how many places are tried
-- Examples   shifts and counts that the checker computes
pub mod Laws
pub mod Shifts
pub mod Examples
