-- The lemmas of this crate, each file by its subject. Its own proofs use them, and no other crate
-- does.
pub mod InParts
pub mod Traced
pub mod SameMoves
pub mod Paired
pub mod Followed
