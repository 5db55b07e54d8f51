-- The words in which contracts speak of a table and its seats. Other crates cite Turning and
-- Passes.
pub mod Turning
pub mod Passes
-- No other crate cites Knowing and Taking; callers meet `KeepsStop` of Knowing (src/seats.rt).
pub mod Knowing
pub mod Taking
