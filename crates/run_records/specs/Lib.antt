-- Records, edits and headers, and their bytes. Other crates cite Causes, Entries, Headers, Room and
-- Spelling; Edits, Heads and Stamps are for this crate alone.
pub mod Causes
pub mod Edits
pub mod Entries
pub mod Headers
pub mod Heads
pub mod Room
pub mod Spelling
pub mod Stamps
