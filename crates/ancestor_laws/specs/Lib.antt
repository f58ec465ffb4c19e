-- What the laws speak of.
--     Chain     a chain of steps, and a list that rises
--     Earlier   every dependency names an earlier row
pub mod Chain
pub mod Earlier
