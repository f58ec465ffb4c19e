-- What the contracts cite.
--     Given    what append is given, from its parameters, and the ends that it answers
--     Tests    append's tests in groups
pub mod Given
pub mod Tests
