-- The words in which contracts speak of a drive line. Other crates cite Driving and Line.
pub mod Driving
pub mod Line
-- No other crate cites Wire, but `LineId` of Line is made of its `WireId`.
pub mod Wire
