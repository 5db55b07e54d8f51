-- The words of the contracts of path_moves: what it means that the moves of turns are those of records.
pub mod OneWord
