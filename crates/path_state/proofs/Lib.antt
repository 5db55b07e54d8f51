-- The lemmas of path_state, each file by its subject. The others are for the proofs of this crate.
mod ControlledPlaces
pub mod ControlledStatements
mod ControlledWords
pub mod ControlledWrites
pub mod ControlledFlow
mod ControlledLabels
pub mod NeedsShared
mod NeedsStatements
pub mod NeedsWords
mod StandingLevels
mod Decided
mod AssignedNext
mod Protected
mod NextBlocks
mod StatementCodes
