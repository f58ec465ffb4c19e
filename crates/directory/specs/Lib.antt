-- What the contracts cite.
--     Directory   entries, slots, and what they hold
--     Inner       what the functions that are not public say of their results
pub mod Directory
pub mod Inner
