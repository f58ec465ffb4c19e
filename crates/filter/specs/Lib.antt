-- What the contracts cite.
--     Filter   the bits of a hash, whether they are set, and set
pub mod Filter
