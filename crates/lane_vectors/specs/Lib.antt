-- The words of these tests. No other crate uses them.
pub mod Codes
pub mod Waiting
