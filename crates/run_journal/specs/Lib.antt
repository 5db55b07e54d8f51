-- The words in which contracts speak of the journal of a run: what it is, and what its calls
-- promise. Other crates cite all of them but Reading, which is for this crate alone.
pub mod Bad
pub mod Batches
pub mod Beginning
pub mod Filled
pub mod Kept
pub mod Meaning
pub mod Opening
pub mod Places
pub mod Reading
pub mod Stands
