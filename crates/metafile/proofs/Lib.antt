-- Samples       values that the joint proof and the examples are given
-- Computed      opens every definition, for proofs by computing
-- Cuts          demand 3 tried on two cuts
-- Joint         the starred cases of the paper, as one theorem
-- NoBytes       a file of no bytes
-- ThreeEndings  how the end of a chunk was found
-- SpacesInFront numbers with spaces in front, and one serial number under two writings of its check
-- Relations     the contents of ADS\SYS\Relations, written and checked
-- DayNumbers    the numbers of days
-- Latest        which of several relation chunks holds
-- Ways          what is reached in steps, where the parents of each row are given
-- Circles       circles of parents
-- Given         a text that is given, and what append sees of it
pub mod Computed
pub mod Samples
pub mod Cuts
pub mod Joint
pub mod NoBytes
pub mod ThreeEndings
pub mod SpacesInFront
pub mod Relations
pub mod DayNumbers
pub mod Latest
pub mod Ways
pub mod Circles
pub mod Given
