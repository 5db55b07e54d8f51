-- The words in which contracts speak of the moves of a block. Home and Tolerance are cited in this
-- crate alone.
pub mod Block
pub mod Within
pub mod Target
pub mod Cut
pub mod Centre
pub mod Circle
pub mod Home
pub mod Tolerance
pub mod Faults
