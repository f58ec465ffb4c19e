-- Demand 3: what the reading gives after power fails in an accepted append; and demand 2 for append, the round trip.
--     Damage      bytes cut short, with some bytes zero
--     Cut         whole implies finished
--     Buffer      the three writes are the parts of the buffer between the ends
--     After       the reading after a cut
--     Asked       the call parent, where no test refuses
--     Parents     parents after a cut
--     Theorem     demand 3
--     Counted     the number of rows after any cut, as metafile's Cuts computes it
--     RoundTrip   demand 2 for append
pub mod Damage
pub mod Cut
pub mod Buffer
pub mod After
pub mod Asked
pub mod Parents
pub mod Theorem
pub mod Counted
pub mod RoundTrip
