pub mod Laws
pub mod Turns
pub mod Enough
