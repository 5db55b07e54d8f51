-- The lemmas of this crate, each file by its subject. No other crate takes any.
pub mod Bare
pub mod Levels
pub mod Ended
pub mod Agreeing
pub mod Joined
pub mod Taken
pub mod Pieces
pub mod Paired
