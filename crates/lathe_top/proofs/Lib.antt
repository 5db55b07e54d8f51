-- The lemmas of this crate, in the order in which they rest on each other, but for BranchesMade,
-- which takes a definition of StopsLeave. The proofs of this crate use them, and no other crate
-- does.
pub mod VersionsKept
pub mod GoingOn
pub mod GoingReported
pub mod Opened
pub mod RunsBegun
pub mod RunsFound
pub mod Agreed
mod OneRaces
mod ZonesDue
mod EditsDue
mod EditsMade
mod BranchesDue
mod BranchesMade
pub mod DueOnce
pub mod FaultsFirst
pub mod JournalUsed
pub mod DoneLeaves
pub mod StopsLeave
pub mod StreamsWritten
