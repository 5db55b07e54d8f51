-- The words in which contracts speak of a run whose paths take turns.
pub mod Ending
pub mod InTurn
