-- The lemmas of this crate, each file by its subject. The others are for the proofs of this crate.
pub mod Ended
pub mod VerdictTold
pub mod TurnsTold
pub mod WaitsTold
pub mod WeighedTold
pub mod FitTexts
pub mod Handed
pub mod PairTold
pub mod TurnByTurn
pub mod EventsDue
