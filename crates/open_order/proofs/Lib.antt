-- What proves the clauses of this crate. No other crate takes any of it.
pub mod Listed
pub mod Refused
pub mod Within
pub mod FirstRefused
pub mod Counted
pub mod Gathered
