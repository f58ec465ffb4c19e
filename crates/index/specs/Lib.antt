-- What the contracts cite.
--     Index   the hash of a serial number, the slots of an index, and what they hold
pub mod Index
