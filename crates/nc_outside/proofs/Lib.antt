-- What proves the clauses of this crate.
pub mod Coming
pub mod Counted
pub mod Finding
pub mod Listed
