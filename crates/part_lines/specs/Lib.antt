-- The words of the contracts of part_lines. Lines and Pieces are for this crate alone.
pub mod Least
pub mod PartLines
pub mod Lines
pub mod Pieces
