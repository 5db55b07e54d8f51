-- The lemmas of this crate, in one file: the moves of a canned cycle end at positions. No other
-- crate uses them.
pub mod Positions
