-- What becomes of the blocks of a program, as a relation.
pub mod Walks
