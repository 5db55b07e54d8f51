-- The lemmas of macro_eval. Compiled and Short are for this crate alone.
pub mod Compiled
mod Short
pub mod TakenReads
