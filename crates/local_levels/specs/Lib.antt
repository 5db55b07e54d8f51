-- The local variables of a path as a stack of levels.
pub mod Stack
