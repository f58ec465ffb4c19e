pub mod State
pub mod Table
