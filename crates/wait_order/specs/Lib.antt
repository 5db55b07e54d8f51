-- The words of the contracts of this crate. No other crate cites them: what is wrong with waits is
-- defined in block_order (specs/Faults.antt).
pub mod Stretches
pub mod Ways
pub mod Searchers
pub mod Waiting
pub mod Searches
pub mod Ahead
pub mod View
pub mod TapeFaults
pub mod Depth
pub mod Deep
