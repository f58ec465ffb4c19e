-- What the contracts cite beside metafile's definitions.
--     Put   bytes put at a place of a buffer
pub mod Put
