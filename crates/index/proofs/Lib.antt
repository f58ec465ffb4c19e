-- Loops   what the functions over a serial number and over the slots need
-- Laws    what an index holds: nothing, one serial number more; what a vacant slot says
pub mod Loops
pub mod Laws
