-- The lemmas of this crate, which its functions name where they need them.
pub mod LastWord
pub mod TableEnds
pub mod Waiting
