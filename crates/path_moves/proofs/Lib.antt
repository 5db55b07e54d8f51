-- The lemmas of path_moves: the moves of records, one after the other (OfRecords), and those of turns
-- (OfTurns).
mod OfRecords
mod OfTurns
mod Lengths
