-- The lemmas of this crate. Runs is for crates that keep a journal, Written for all disks that list
-- what was written, the rest for the disks in memory.
pub mod Copies
pub mod Filled
pub mod Fused
pub mod Images
pub mod Kept
pub mod Plans
pub mod Runs
pub mod Written
