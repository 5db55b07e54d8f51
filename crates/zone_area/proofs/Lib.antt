-- The lemmas of this crate. Crates above take lengths in parts (Scaled), what areas hold (InArea,
-- Least), and areas that lie apart (Apart). For this crate alone: lengths as they are stored
-- (Squares), and roots rounded up (LeastRoot).
pub mod Scaled
pub mod InArea
pub mod Least
pub mod Apart
mod LeastRoot
mod Squares
