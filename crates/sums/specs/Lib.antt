-- What the contracts cite.
--     Lanes   eight bytes as one word, and what sums of words tell of the sum of their bytes
pub mod Lanes
