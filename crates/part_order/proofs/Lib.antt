-- The lemmas of this crate, each file after those that it takes. The head of each file says which.
pub mod ItemsAhead
pub mod KeepsItems
pub mod Standing
pub mod Folded
pub mod Counted
