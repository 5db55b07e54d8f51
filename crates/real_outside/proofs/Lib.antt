-- The lemmas of this crate. Its own proofs use them, and no other crate does.
mod Untold
