-- The lemmas of this crate, each file by its subject. No other crate uses them.
pub mod Lines
pub mod MadeLines
pub mod Sizes
