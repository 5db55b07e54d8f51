-- What proves the clauses of this crate. Other crates take FoundPasses and LastOfGroup.
pub mod FoundPasses
pub mod LastOfGroup
pub mod Lookup
