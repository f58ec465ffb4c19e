-- Laws    the sum of bytes over parts of a run
-- Lanes   words, their lanes, and the sum of their bytes
pub mod Laws
pub mod Lanes
