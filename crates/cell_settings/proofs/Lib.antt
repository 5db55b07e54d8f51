-- The lemmas of this crate, each file by its subject. No other crate uses them.
pub mod Switches
pub mod Kept
