-- Laws      what a list holds
-- Numbers   bytes as one number, compared from the last byte on
-- Loops     what the functions of src need
pub mod Laws
pub mod Numbers
pub mod Loops
