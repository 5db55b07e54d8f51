-- What making an operator's edits does to the disk of a journal (Made). Writing is for this crate
-- alone.
pub mod Made
-- The preconditions of private functions.
pub mod Writing
