-- The words in which contracts speak of a tape that is read for its waits alone: what its blocks do
-- to the order, when it is refused, what it takes on trust. Gone and Least are cited in this crate
-- alone.
pub mod Gone
pub mod Reading
pub mod Contours
pub mod Counts
pub mod Doubles
pub mod Exact
pub mod Least
pub mod Together
pub mod Trusted
pub mod Basis
