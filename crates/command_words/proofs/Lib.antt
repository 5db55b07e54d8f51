-- The lemmas of this crate, each file by its subject.
pub mod GivenWords
pub mod Lengths
pub mod Numbers
pub mod PlainWords
