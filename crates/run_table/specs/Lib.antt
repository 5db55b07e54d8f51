-- The words in which contracts speak of a run with its journal. Other crates cite Begun, Ending,
-- Holding, Kept, Made, Recording, Recovered, Running and Since. None cites Apart, Draining and
-- Stepping, but callers meet their words in the clauses of `Table` (src/table.rt).
pub mod Begun
pub mod Draining
pub mod Ending
pub mod Holding
pub mod Kept
pub mod Made
pub mod Recording
pub mod Recovered
pub mod Running
pub mod Since
pub mod Stepping
pub mod Apart
