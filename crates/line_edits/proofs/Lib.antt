-- The lemmas of edited texts. ByLines is for proofs of other crates too.
pub mod ByLines
mod Splicing
