-- Laws of the contents of a MultiChunk, for the functions of src/.
--     TypeStages   the stages of the head and of a type
--     TypeWalk     the loops over the types, and the short IDs kept
--     MiniStages   the stages of a mini-chunk
--     MiniWalk     the loops over the mini-chunks
--     Contents     the contents as a whole
pub mod TypeStages
pub mod TypeWalk
pub mod MiniStages
pub mod MiniWalk
pub mod Contents
