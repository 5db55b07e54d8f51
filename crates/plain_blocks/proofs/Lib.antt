-- The lemmas of plain_blocks. OwnStays is for proofs of other crates too.
pub mod OwnStays
mod Replacing
mod WrittenCalm
