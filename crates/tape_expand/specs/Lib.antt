-- The words of the contracts of tape_expand. The others are cited in this crate alone; they say how
-- the text is made that Expansion promises.
pub mod Faults
pub mod BlockText
pub mod Replaced
pub mod Expansion
