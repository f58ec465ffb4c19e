-- Blocks   a file in blocks of 512 bytes: packed, judged, unpacked, and the two calls
pub mod Blocks
