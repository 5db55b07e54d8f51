-- The lemmas of this crate, each file by its subject. The others are for the proofs of this crate.
pub mod NotHad
pub mod TextsLent
pub mod OfFiles
pub mod TextsShown
pub mod ZonesTold
mod EditsTold
