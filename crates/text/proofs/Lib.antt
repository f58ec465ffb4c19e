-- Puts      bytes put one behind the other
-- Decimals  numbers without leading zeros
pub mod Puts
pub mod Decimals
