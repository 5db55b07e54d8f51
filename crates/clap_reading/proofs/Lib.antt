-- The lemmas of this crate, each file by its subject; TopWords ends in the law of src/law.rt. No
-- other crate uses them.
pub mod Building
pub mod FromMatches
pub mod Readings
pub mod Steps
pub mod Stories
pub mod Subcommands
pub mod TopWords
pub mod Uses
pub mod Walks
pub mod WordKinds
