-- The words in which contracts speak of the recovery of a run. Reading is for this crate alone.
pub mod Pair
pub mod History
pub mod Meaning
pub mod Recovered
pub mod Reading
pub mod Lives
