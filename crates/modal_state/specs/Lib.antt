-- What is in force for a path (View), what a block's codes (Modal) and words (Words) make of it,
-- and the one alarm (Faults). Other crates cite these four, and not Said and Fields.
pub mod Modal
pub mod Words
pub mod Faults
pub mod View
pub mod Said
pub mod Fields
