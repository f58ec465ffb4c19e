pub mod Values
pub mod Formed
pub mod Tests
