-- The one file of lemmas of this crate. No other crate uses it.
pub mod NamedWork
