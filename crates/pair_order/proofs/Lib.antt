-- The lemmas of this crate, each file by its subject.
pub mod Meetings
pub mod Machines
mod Ways
