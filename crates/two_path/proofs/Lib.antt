-- The lemmas of two_path, each file by its subject. Other crates use Folds, Edited, Lawful, Recorded,
-- NoCrossing, Paired, Apart, DoneAgain and Replays.
mod Idle
pub mod Folds
pub mod Edited
pub mod Lawful
pub mod Recorded
mod Scheduled
mod Counted
mod Kept
pub mod NoCrossing
mod NoCrossingPlaces
mod NoCrossingStatements
mod NoCrossingMotion
mod NoCrossingBlocks
pub mod Paired
mod Behind
mod Stays
mod Settled
mod NoMoves
pub mod Apart
mod Steady
mod Replayed
mod Redone
mod Due
mod Ready
pub mod DoneAgain
pub mod Replays
