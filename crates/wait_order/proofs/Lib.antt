-- The lemmas of this crate, each file by its subject, each after those that it takes. No other
-- crate takes them.
pub mod Stretched
pub mod Elsewhere
pub mod Ahead
pub mod Nearest
pub mod Least
pub mod Leading
pub mod Counted
pub mod Searching
pub mod Strayed
pub mod Called
pub mod Deepest
pub mod Judged
pub mod Listed
