-- The lemmas of race_report, each file by its subject. The others are for the proofs of this crate.
mod TreeReads
mod NoMeeting
mod SoughtLines
mod FewerWaits
mod FirstRaces
mod Told
mod Listed
mod OneOutcome
mod Puts
mod FewParts
mod OneList
pub mod SameForms
