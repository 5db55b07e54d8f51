-- The words in which contracts speak of what a block does to the order of blocks, read for that
-- alone. Refusals and Statements are cited in this crate alone.
pub mod Words
pub mod Codes
pub mod Refusals
pub mod Statements
pub mod Controls
pub mod Widening
