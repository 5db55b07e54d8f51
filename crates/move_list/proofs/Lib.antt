-- The lemmas of this crate, each file after those that it uses. The others are for the proofs of
-- this crate.
pub mod CauseByNumber
pub mod EachFrom
pub mod Fixed
pub mod SharedNumbers
pub mod ReportOfMoves
pub mod SummaryOfMoves
pub mod Streams
