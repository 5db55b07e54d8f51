-- The lemmas of these tests, which no other crate uses.
pub mod RestFirst
