-- The words in which contracts speak of canned cycles.
pub mod Cycles
pub mod End
pub mod Pass
