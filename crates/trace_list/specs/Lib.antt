-- The words of the contracts of a trace. Trace says which lines a history has, TraceText how a line
-- is printed; Laws, Meetings and Stops are for the laws of src/laws.rt. Other crates cite Trace
-- alone.
pub mod TraceText
pub mod Trace
pub mod Laws
pub mod Meetings
pub mod Stops
