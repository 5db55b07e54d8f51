-- The texts of a run, in the order of their files: each is defined apart from the code that writes
-- it. Other crates cite all but Pieces.
pub mod Pieces
pub mod EndText
pub mod Report
pub mod Summary
pub mod State
