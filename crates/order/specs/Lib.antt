-- What the contracts cite.
--     Order   the order of places by the serial numbers there
--     Inner   what the functions that are not public say of their results
pub mod Order
pub mod Inner
