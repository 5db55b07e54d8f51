-- What proves the clauses of this crate.
pub mod Grown
pub mod Latest
pub mod Laws
pub mod Steps
pub mod VariableNumbers
