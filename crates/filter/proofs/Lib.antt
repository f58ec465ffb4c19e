-- Loops   what the functions of src need
-- Laws    a hash that is set is covered, and what was covered stays so
pub mod Loops
pub mod Laws
