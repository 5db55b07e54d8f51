-- The lemmas of block_values, each file by its subject. The others are for the proofs of this
-- crate.
mod Ends
mod Hanging
pub mod Locals
