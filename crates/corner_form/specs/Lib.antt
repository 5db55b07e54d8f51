-- Corners between two lines: where they begin and end, what is written of them, and what that keeps.
pub mod Shape
pub mod Cuts
pub mod Keeps
