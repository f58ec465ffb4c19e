-- Taken   what an accepted append says of the file and of what was given
pub mod Taken
