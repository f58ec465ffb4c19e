-- Laws of a chunk and of a reading, over the definitions in metafile.
--     Types      the types of a MultiChunk
--     Minis      its mini-chunks
--     Multi      its contents: they lie inside, and are the same with more bytes behind
--     Contents   the contents of either sort
--     Chunk      one chunk: whole, inside its bytes, at least 856 bytes long
--     Local      one chunk, the same with more bytes behind
--     Rows       the rows from a place on: one step, and more bytes behind a clean reading
--     Enough     how many rows are enough
--     File       the file header, and a reading of the whole file
--     Places     every row is that of a whole chunk at its place
--     Follow     the rows stand one behind the other, without a gap
--     Dependencies   the values of a whole chunk's dependencies, and the chunk of a row
--     Endings    every row says how its chunk's end was found
--     Serials    the serials in rows are distinct; looking one up
pub mod Types
pub mod Minis
pub mod Multi
pub mod Contents
pub mod Chunk
pub mod Local
pub mod Rows
pub mod Enough
pub mod File
pub mod Places
pub mod Follow
pub mod Dependencies
pub mod Endings
pub mod Serials
