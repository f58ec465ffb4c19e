-- What the contracts cite.
--     Shifts   how far a search may move on from a place, and how many places it tries
pub mod Shifts
