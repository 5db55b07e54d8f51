-- The lemmas of this crate, which no other crate uses.
pub mod JobsDone
