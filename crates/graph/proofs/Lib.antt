-- Laws   what the functions do to the marks
pub mod Laws
