-- The lemmas of this crate, each file by its subject.
pub mod Appending
pub mod Beginning
pub mod Bodies
pub mod Chains
pub mod Ends
pub mod Heads
pub mod Prefixes
pub mod Reading
pub mod Refusals
pub mod Staged
pub mod Unique
pub mod Windows
