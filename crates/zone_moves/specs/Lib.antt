-- The stretches of a path (Stretches), what is hit first in those of both (Judged), and what a body
-- may touch (Touching).
pub mod Stretches
pub mod Judged
pub mod Touching
-- Bodies of tools, fixed boxes, and which cells are in range.
pub mod Bodies
pub mod Fixed
pub mod Cells
-- Judged rests on it.
pub mod Pairs
-- For this crate alone.
pub mod Trails
pub mod Parts
