-- The lemmas of this crate, each file after those that it uses.
pub mod Batches
pub mod Beginnings
pub mod Places
pub mod Records
pub mod PieceByPiece
pub mod Openings
pub mod OneMeaning
pub mod Ends
pub mod Fillings
