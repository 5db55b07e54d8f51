-- The lemmas of this crate, each file by its subject. No other crate takes any.
pub mod LastWord
pub mod Calm
pub mod Sentences
pub mod ReadWords
pub mod TableRows
pub mod AmongLetters
pub mod LastWithin
pub mod Accepts
pub mod Widened
pub mod CleanStatements
