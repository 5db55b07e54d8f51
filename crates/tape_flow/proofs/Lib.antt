-- The lemmas of tape_flow, each file by its subject.
pub mod FirstRefused
pub mod Listed
pub mod Seen
pub mod Accepted
