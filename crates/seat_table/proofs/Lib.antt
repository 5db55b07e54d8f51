-- The lemmas of this crate, each file by its subject.
pub mod Keeping
pub mod Telling
pub mod Lifting
