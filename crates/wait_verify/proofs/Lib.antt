-- The lemmas of wait_verify, each file by its subject. The others are for the proofs of this crate.
pub mod Refused
pub mod Judging
pub mod Pieces
pub mod NotBoth
pub mod OneRefusal
pub mod SomeAnswer
pub mod Positions
pub mod OneTold
pub mod Whole
pub mod Widened
pub mod NamedBySigns
